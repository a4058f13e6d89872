-- `metric::distance_after` meets its contract: a distance is the same in either order. Assumes nothing.
use mathlib.Core.Path.{◌≡◌, refl, sym, ap₂, ◌∙◌}
use mathlib.Core.Bool.{Bool, true, false, ◌&&◌, ◌||◌}
use Prim.Native.Nat.{ℕ}
use lib.Dec.{eqb}
use borrow.Author.Tests.{eqb-true}
use Rattle.metric.specs.Distance.{distance_of}
use Rattle.metric.proofs.Channels.{both}
use Rattle.metric.proofs.Distances.{symmetric}
use Rattle.metric.proofs.distance_after.Goals as goal

-- the words that are tested are the same
moved : (a b p q : ℕ) → (eqb p a && eqb q b) ≡ true → distance_of a b ≡ distance_of p q
moved a b p q e =
    let t = both (eqb p a) (eqb q b) e in
    ap₂ distance_of (sym (eqb-true p a t.0)) (sym (eqb-true q b t.1))

in_order : (a b p q : ℕ) (t : Bool) → (eqb p a && eqb q b) ≡ t → (t || eqb p b && eqb q a) ≡ true → distance_of a b ≡ distance_of p q
in_order a b p q true e h = moved a b p q e
in_order a b p q false e h = symmetric a b ∙ moved b a p q h

pub returns-then-p-k : goal.returns-then-p-k
returns-then-p-k c = c.requires ∙ in_order c.args.k.p c.args.k.q c.args.p c.args.q _ refl c.if-p-k.true
