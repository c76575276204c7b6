-- Laws of a line that is put together part by part.
use Rattle.std.specs.Prelude.{Option}
use Prim.Native.Nat.{ℕ, zero, suc, ◌+◌, ◌-◌, ◌/◌, ◌%◌, ◌≤◌, ◌<◌}
use mathlib.Core.Path.{◌≡◌, refl, ap, sym, ◌∙◌}
use mathlib.Core.List.{List, [], ◌∷◌, ◌++◌, append_assoc, append-nil}
use native.Mathlib.Numerals.{add-one}
use native.Mathlib.Omega.{arith}
use borrow.Author.Tests.{lt-ltb, le-ltb}
use lib.ListN.{length, get_or, set, take}
use lib.Seq.{take-suc, take-suc-set}
use Rattle.rules.specs.Names.{SeqNum, SessionStatus, Answer}
use Rattle.rules.specs.Answers.{told}
use Rattle.trace.specs.Ascii.{ascii}
use Rattle.trace.specs.Text.{digits, decimal, colons, answer_text, status_text, expected_text, line_text, Adds, Writes}
use Rattle.trace.specs.declared.text.Text.{Text}

-- nothing is added
pub adds_none : (l : List ℕ) (at : ℕ) → Adds l at [] 0 l at
adds_none l at = record { is = sym (append-nil (take at l)); room = omega arith }

-- one part after another
pub adds_then : {a b c : List ℕ} {i j k : ℕ} {s t : List ℕ} {m n : ℕ} → Adds a i s m b j → Adds b j t n c k → Adds a i (s ++ t) (m + n) c k
adds_then {a} {b} {c} {i} {j} {k} {s} {t} {m} {n} p q =
    record { is = q.is ∙ ap (λ (x : List ℕ). x ++ t) p.is ∙ append_assoc (take i a) s t; room = omega (arith, p.room, q.room) }

-- a part that leaves some of its room
pub adds-less : {a b : List ℕ} {i j : ℕ} {t : List ℕ} {m : ℕ} (n : ℕ) → m ≤ n → Adds a i t m b j → Adds a i t n b j
adds-less n h p = record { is = p.is; room = omega (arith, p.room) }

-- the same bytes, written another way
pub adds-as : {a b : List ℕ} {i j : ℕ} {t u : List ℕ} {m : ℕ} → t ≡ u → Adds a i t m b j → Adds a i u m b j
adds-as {a} {b} {i} e p = record { is = p.is ∙ ap (λ (x : List ℕ). take i a ++ x) e; room = p.room }

-- one byte is stored behind the others
pub adds-byte : (l : List ℕ) (at x : ℕ) → at < length l → Adds l at (x ∷ []) 1 (set l at x) (at + 1)
adds-byte l at x h = record { is = rw (add-one at) (take-suc-set l at x h); room = omega arith }

-- one part after another, in a buffer that is kept
pub writes_then : {a b c : Text} {s t : List ℕ} {m n : ℕ} → Writes a s m b → Writes b t n c → Writes a (s ++ t) (m + n) c
writes_then p q = record { same = q.same ∙ p.same; long = q.long ∙ p.long; adds = adds_then p.adds q.adds }

-- the same bytes, written another way
pub writes-as : {a b : Text} {t u : List ℕ} {m : ℕ} → t ≡ u → Writes a t m b → Writes a u m b
writes-as e p = record { same = p.same; long = p.long; adds = adds-as e p.adds }

-- ---- parts of a line
-- a second number after a colon
pub colons-two : (w : List ℕ) (a b : ℕ) → (w ++ colons (a ∷ [])) ++ colons (b ∷ []) ≡ w ++ colons (a ∷ b ∷ [])
colons-two w a b = simp (append_assoc, append-nil)

-- a line's fields, one after another
pub line-parts : (index : ℕ) (x : Answer) (s : SessionStatus) (expected : Option SeqNum) (gaps outputs : ℕ)
    → ((((((((((decimal index ++ ascii " ") ++ answer_text (told x)) ++ ascii " ") ++ status_text s) ++ ascii " ") ++ expected_text expected) ++ ascii " ") ++ decimal gaps) ++ ascii " ") ++ decimal outputs) ++ ascii "\n"
    ≡ line_text index x s expected gaps outputs
unfolding line_text
line-parts index x s expected gaps outputs = simp append_assoc

-- one more element of a list
pub take_more : (l : List ℕ) (i : ℕ) → i < length l → take (i + 1) l ≡ take i l ++ (get_or l i 0 ∷ [])
take_more l i h = rw (add-one i) (take-suc l i 0 h)

-- ---- digits
pub digits-none : (n : ℕ) → digits 0 n ≡ []
unfolding digits
digits-none n = refl

pub digits-one : (k n : ℕ) → (k ≡ 0 → ⊥) → n < 10 → digits k n ≡ (48 + n) ∷ []
unfolding digits
digits-one zero n z h = absurd (z refl)
digits-one (suc k) n z h = rw (lt-ltb n 10 h)

pub digits_more : (k n : ℕ) → (k ≡ 0 → ⊥) → 10 ≤ n → digits k n ≡ digits (k - 1) (n / 10) ++ ((48 + n % 10) ∷ [])
unfolding digits
digits_more zero n z h = absurd (z refl)
digits_more (suc k) n z h = let e : suc k - 1 ≡ k = omega arith in rw (le-ltb n 10 h, e)
