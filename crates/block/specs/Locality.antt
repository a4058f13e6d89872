-- The passes of this repository as stages of a pipeline, and the tag of each word of a block. Definitions only.
use Rattle.std.specs.Prelude.{ℕ, zero, suc}
use Rattle.picture.specs.Pipeline.{Stages}
use Rattle.clarity.specs.declared.Clarity.{Clarity}
use Rattle.metric.specs.declared.Metric.{Metric}
use Rattle.metric.specs.declared.Weights.{Weights}
use Rattle.metric.specs.Metric.{metric_of}
use Rattle.weight.specs.Weight.{weights_of}
use Rattle.junction.specs.declared.Junctions.{Junctions}
use Rattle.junction.specs.Junction.{arbitrate_junctions}
use Rattle.tag.specs.declared.Tags.{Tags}
use Rattle.tag.specs.Tag.{trace_edges, offset_of}
use Rattle.block.specs.Block.{corner, mid}

-- the tag of word k of a block
unfoldable pub tag_of : Tags → ℕ → ℕ
tag_of t zero = corner t.t0
tag_of t (suc zero) = mid t.t0
tag_of t (suc (suc zero)) = corner t.t1
tag_of t (suc (suc (suc zero))) = mid t.t3
tag_of t (suc (suc (suc (suc zero)))) = 0
tag_of t (suc (suc (suc (suc (suc zero))))) = mid t.t1
tag_of t (suc (suc (suc (suc (suc (suc zero)))))) = corner t.t3
tag_of t (suc (suc (suc (suc (suc (suc (suc zero))))))) = mid t.t2
tag_of t (suc (suc (suc (suc (suc (suc (suc (suc k)))))))) = corner t.t2

-- the passes of this repository
unfoldable pub stages : Clarity → Stages ℕ Metric Weights Junctions Tags
stages q = record {
  metric_of = metric_of;
  weights_of = weights_of q;
  junctions_of = arbitrate_junctions;
  tags_of = trace_edges;
  off_x = λ t k. (offset_of (tag_of t k)).dx;
  off_y = λ t k. (offset_of (tag_of t k)).dy;
}
