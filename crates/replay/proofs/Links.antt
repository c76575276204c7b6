-- A link whose binding is another one, by whether there is a binding.
use Rattle.std.specs.Prelude.{Option, Some, None}
use mathlib.Core.Path.{◌≡◌, ap, sym, ◌∙◌}
use Rattle.rules.specs.Names.{Link, Binding}
use Rattle.replay.specs.Ordinary.{binding_then, link_then}

pub then-none : (f : Binding → Binding) (l : Link) → l.binding ≡ None → l ≡ link_then f l
then-none f l e = ap (λ (x : Option Binding). record { binding = x; reason = l.reason }) (e ∙ sym (ap (binding_then f) e))

pub then-bound : (f : Binding → Binding) (l : Link) (b : Binding) → l.binding ≡ Some b → ◌≡◌ {A = Link} (record { binding = Some (f b); reason = l.reason }) (link_then f l)
then-bound f l b e = ap (λ (x : Option Binding). record { binding = binding_then f x; reason = l.reason }) (sym e)
