-- Laws of section 5's tags: how far an offset reaches, and the tag at corner 0 that the table asks for. Assumes nothing.
use Rattle.std.specs.Prelude.{T}
use Prim.Native.Nat.{ℕ, zero, suc}
use Rattle.picture.specs.Local.{reaches}
use Rattle.junction.specs.declared.Junctions.{Junctions}
use Rattle.tag.specs.declared.Tags.{Tags}
use Rattle.tag.specs.Tag.{trace_edges, offset_of}

-- ---- no tag
abbrev pub none : Tags
none = record { t0 = 0; t1 = 0; t2 = 0; t3 = 0 }

-- ---- the offsets
pub offset_reaches : (t : ℕ) → T (reaches 2 2 2 2 (offset_of t).dx (offset_of t).dy)
offset_reaches zero = tt
offset_reaches (suc zero) = tt
offset_reaches (suc (suc zero)) = tt
offset_reaches (suc (suc (suc zero))) = tt
offset_reaches (suc (suc (suc (suc zero)))) = tt
offset_reaches (suc (suc (suc (suc (suc zero))))) = tt
offset_reaches (suc (suc (suc (suc (suc (suc zero)))))) = tt
offset_reaches (suc (suc (suc (suc (suc (suc (suc zero))))))) = tt
offset_reaches (suc (suc (suc (suc (suc (suc (suc (suc zero)))))))) = tt
offset_reaches (suc (suc (suc (suc (suc (suc (suc (suc (suc t))))))))) = tt

-- ---- the tag at corner 0, all other numbers being 0
abbrev at0 : ℕ → Junctions
at0 n = record { n0 = n; n1 = 0; n2 = 0; n3 = 0 }

abbrev pub tag_at0 : ℕ → ℕ
tag_at0 n = (trace_edges (at0 n) (at0 0) (at0 0) (at0 0) (at0 0) (at0 0) (at0 0) (at0 0) (at0 0) (at0 0) (at0 0) (at0 0) (at0 0)).t0
