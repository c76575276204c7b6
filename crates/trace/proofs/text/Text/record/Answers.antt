-- The fields are written in their order, and the room holds them.
use Rattle.trace.proofs.Lines.{writes_then, writes-as, line-parts}
use Rattle.trace.proofs.text.Text.record.Goals as goal

pub returns : goal.returns
returns c =
    let l = c.args.line in
    let answered = writes_then (writes_then (writes_then c.number.ensures c.word.ensures) c.answer.ensures) c.word-2.ensures in
    let standing = writes_then (writes_then (writes_then (writes_then answered c.status.ensures) c.word-3.ensures) c.expected.ensures) c.word-4.ensures in
    writes-as (line-parts l.index l.answer l.status l.expected l.gaps l.outputs) (writes_then (writes_then (writes_then (writes_then standing c.number-2.ensures) c.word-5.ensures) c.number-3.ensures) c.word-6.ensures)
