-- `trace::text::push_digits` meets its contract: the last digit stands behind those of the tenth. Assumes nothing.
use Rattle.std.proofs.Common.{◌+◌, ◌%◌, arith}
use Rattle.trace.proofs.Lines.{adds_then, adds-less, adds-byte, digits_more}
use Rattle.trace.proofs.text.+push_digits.Goals as goal

pub returns : goal.returns
returns t c =
    let a = c.args in
    let d = c.push_digits-next in
    let last = adds-byte d.new.out d.result (48 + a.n % 10) (omega (arith, c.requires, d.auto.out, d.ensures.room)) in
    rw (digits_more a.k a.n (omega arith) c.if-n-lt10.false) (adds-less a.k (omega arith) (adds_then d.ensures last))
