-- Laws of the queue as a list: its length, and outputs added one after another.
use native.Mathlib.Omega.{arith}
use native.Mathlib.Numerals.{add-one}
use Prim.Native.Nat.{ℕ, zero, suc, ◌+◌, ◌-◌, ◌<◌, ◌≤◌}
use mathlib.Core.Path.{◌≡◌, refl, ap, sym, ◌∙◌}
use mathlib.Core.Bool.{Bool, true, false, ◌||◌, ◌&&◌}
use mathlib.Core.List.{List, [], ◌∷◌, ◌++◌, append_assoc, map}
use lib.ListN.{length, get_or}
use lib.Dec.{ltb, leb}
use borrow.Author.Tests.{ltb-true, leb-true}
use Rattle.rings.specs.Ring.{ring_list, wrap}
use Rattle.rings.proofs.Laws.{length-ring, ring-cons, ring-none, ring-snoc, wrap-low}
use Rattle.types.specs.Reasons.{reason_fits}
use Rattle.rules.specs.Names.{Output, Reason}
use Rattle.rules.specs.State.{Queue, queued, closes, is_close}
use Rattle.rules.specs.Outputs.{close_transport}
use Rattle.rules.specs.Calls.{max_outs, room_for_call, texts_fit}
use Rattle.queue.specs.View.{outs_of, OutsWf, sound_outs, takes}
use Rattle.types.specs.Outputs.{output_of}
use Rattle.queue.specs.Added.{no_line, lines_of, said_in}
use Rattle.queue.specs.declared.added.Added.{Added}
use Rattle.queue.specs.declared.Outputs.{Outputs}

pub outs-length : (q : Outputs) → length (outs_of q) ≡ q.count
unfolding outs_of
outs-length q = length-ring max_outs close_transport q.slots q.head q.count

-- of a ring with something left, the first text and the others
pub texts-first : (s : List Output) (h n : ℕ) → 0 < n → texts_fit (ring_list max_outs close_transport s h n) ≡ (reason_fits (get_or s h close_transport).text && texts_fit (ring_list max_outs close_transport s (wrap max_outs (h + 1)) (n - 1)))
texts-first s h n hn = ap texts_fit (ring-cons max_outs close_transport s h n hn)

-- inside a list the default is not looked at
pub get_d_any : {A : Type 0} (l : List A) (i : ℕ) (d e : A) → i < length l → get_or l i d ≡ get_or l i e
get_d_any [] i d e h = absurd (omega arith)
get_d_any (x ∷ l) zero d e h = refl
get_d_any (x ∷ l) (suc i) d e h = get_d_any l i d e (omega arith)

pub or-false : (a : Bool) → a || false ≡ a
or-false true = refl
or-false false = refl

pub or_assoc : (a b c : Bool) → (a || b) || c ≡ a || (b || c)
or_assoc true b c = refl
or_assoc false b c = refl

-- two lists ask for the transport to be closed if one of them does
pub closes-append : (l m : List Output) → closes (l ++ m) ≡ closes l || closes m
closes-append [] m = refl
closes-append (o ∷ l) m = ap (λ (b : Bool). is_close o.said || b) (closes-append l m) ∙ sym (or_assoc (is_close o.said) (closes l) (closes m))

-- some outputs, and then more
pub queued-append : (q : Queue) (l m : List Output) → queued (queued q l) m ≡ queued q (l ++ m)
unfolding queued
queued-append q l m =
    λ i.
    record {
      outs = append_assoc q.outs l m i;
      closing = (or_assoc q.closing (closes l) (closes m) ∙ ap (λ (b : Bool). q.closing || b) (sym (closes-append l m))) i;
    }

pub queued-none : (q : Queue) → queued q [] ≡ q
unfolding queued
queued-none q = λ i. record { outs = append-nil q.outs i; closing = or-false q.closing i }
  where
    append-nil : (l : List Output) → l ++ [] ≡ l
    append-nil [] = refl
    append-nil (o ∷ l) = ap (λ (m : List Output). o ∷ m) (append-nil l)

pub and_left : (a b : Bool) → a && b ≡ true → a ≡ true
and_left true b e = refl
and_left false b e = e

pub and_right : (a b : Bool) → a && b ≡ true → b ≡ true
and_right true b e = e
and_right false b e = absurd (mathlib.Core.Bool.false≢true e)

-- a queue that passes the record check is in order
pub sound-outs : (q : Outputs) → sound_outs q ≡ true → OutsWf q
sound-outs q e =
    let f = and_left (ltb q.head max_outs && leb q.count max_outs) _ e in
    record { head_in = ltb-true _ _ (and_left _ (leb q.count max_outs) f); count_in = leb-true _ _ (and_right (ltb q.head max_outs) _ f) }

-- ---- what a call says
pub map-append : {A B : Type 0} (f : A → B) (l m : List A) → map f (l ++ m) ≡ map f l ++ map f m
map-append f [] m = refl
map-append f (x ∷ l) m = ap (λ (k : List _). f x ∷ k) (map-append f l m)

-- nothing said is no output
pub said-none : (kept given : Reason) (a : Added) → a.count ≡ 0 → said_in kept given a ≡ []
unfolding said_in lines_of
said-none kept given a e = ap (map (output_of kept given)) (ring-none room_for_call no_line a.lines 0 a.count e)

-- the first i + 1 lines are the first i and one more
pub first_more : (kept given : Reason) (a : Added) (i : ℕ) → i < room_for_call → map (output_of kept given) (ring_list room_for_call no_line a.lines 0 (i + 1)) ≡ map (output_of kept given) (ring_list room_for_call no_line a.lines 0 i) ++ (output_of kept given (get_or a.lines i no_line) ∷ [])
first_more kept given a i h =
    let f = output_of kept given in
    let r = ring_list room_for_call no_line a.lines 0 in
    let low : wrap room_for_call (0 + i) ≡ i = wrap-low room_for_call (0 + i) (omega arith) ∙ omega arith in
    let more : r (suc i) ≡ r i ++ (get_or a.lines i no_line ∷ []) = ring-snoc room_for_call no_line a.lines 0 i (omega arith) h ∙ ap (λ (p : ℕ). r i ++ (get_or a.lines p no_line ∷ [])) low in
    rw add-one (ap (map f) more ∙ map-append f (r i) (get_or a.lines i no_line ∷ []))

-- ---- room for a call's outputs
pub record Taken (q : Outputs) (n : ℕ) : Type 0 where
  pub wf : OutsWf q
  pub few : n ≤ room_for_call
  pub fits : q.count + n ≤ max_outs

pub taken-room : (q : Outputs) (n : ℕ) → takes q n ≡ true → Taken q n
taken-room q n e =
    let l = ltb q.head max_outs in
    let k = leb q.count max_outs in
    let m = leb n room_for_call in
    let f = and_left (l && k && m) _ e in
    let g = and_left (l && k) m f in
    record {
      wf = record { head_in = ltb-true _ _ (and_left l k g); count_in = leb-true _ _ (and_right l k g) };
      few = leb-true _ _ (and_right (l && k) m f);
      fits = leb-true _ _ (and_right (l && k && m) _ e);
    }
