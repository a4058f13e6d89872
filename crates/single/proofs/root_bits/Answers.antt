-- `single::root_bits` meets its contract: `Nearest.antt` has each fact. Assumes nothing.
use mathlib.Core.Path.{◌≡◌, refl, sym, ap, ◌∙◌}
use Rattle.single.specs.Root.{root_bits}
use Rattle.single.proofs.Nearest.{scale_in, scaled_root}
use Rattle.single.proofs.root_bits.Goals as goal

zero_root : root_bits 0 ≡ 0
unfolding root_bits
zero_root = refl

pub returns-then-b-eq0 : goal.returns-then-b-eq0
returns-then-b-eq0 c = sym (ap root_bits c.if-b-eq0.true ∙ zero_root)

pub near_root-r-requires : goal.near_root-r-requires
near_root-r-requires c = scale_in _ _ c.parts_of-m.ensures.lo c.parts_of-m.ensures.hi

pub returns : goal.returns
returns c =
    let x = c.parts_of-m in
    scaled_root x.result.m x.result.e c.near_root-r.result c.args.b c.requires x.ensures c.near_root-r.ensures
