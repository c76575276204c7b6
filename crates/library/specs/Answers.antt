-- An answer as plain numbers: 01's own, by `told`.
use Rattle.std.specs.Prelude.{ℕ, List, [], ◌∷◌}
use Rattle.rules.specs.Names.{Answer, Refusal}
use Rattle.rules.specs.Answers.{Told, ok, accept, replay, discard, sent, batch, refused, told, refusal_number, refusal_values}
use Rattle.library.specs.declared.mirror.Number.{Number}
use Rattle.library.specs.declared.mirror.Reply.{Reply}
use Rattle.library.specs.Parts.{no_number, a_number}

-- the number that an answer may have
abbrev pub number_of : List ℕ → Number
number_of [] = no_number
number_of (n ∷ l) = a_number n

abbrev pub first_of : List ℕ → ℕ
first_of [] = 0
first_of (n ∷ l) = n

abbrev pub second_of : List ℕ → ℕ
second_of [] = 0
second_of (n ∷ l) = first_of l

abbrev pub numbered_reply : ℕ → Number → Reply
numbered_reply kind number = record { kind = kind; refusal = 0; number = number; first = 0; second = 0 }

abbrev pub carrying_reply : ℕ → ℕ → ℕ → Reply
carrying_reply refusal first second = record { kind = 7; refusal = refusal; number = no_number; first = first; second = second }

-- "Answers: `ok`, `accept` or `accept:n`, `replay:n`, `discard`, `sent` or `sent:n`, `batch:from:count`, `refused:n`": 1 to 7
abbrev pub reply_told : Told → Reply
reply_told ok = numbered_reply 1 no_number
reply_told (accept l) = numbered_reply 2 (number_of l)
reply_told (replay l) = numbered_reply 3 (number_of l)
reply_told discard = numbered_reply 4 no_number
reply_told (sent l) = numbered_reply 5 (number_of l)
reply_told (batch from count) = record { kind = 6; refusal = 0; number = a_number from; first = count; second = 0 }
reply_told (refused n values) = carrying_reply n (first_of values) (second_of values)

abbrev pub refusal_out : Refusal → Reply
refusal_out x = reply_told (refused (refusal_number x) (refusal_values x))

abbrev pub answer_out : Answer → Reply
answer_out a = reply_told (told a)
