-- What `Claims.antt` says of a block, and the table. Assumes nothing.
use Rattle.std.specs.Prelude.{refl, get_or}
use Prim.Native.Nat.{ℕ, zero, suc, ◌<◌}
use native.Mathlib.Omega.{arith}
use Rattle.picture.specs.Picture.{moved}
use Rattle.picture.specs.Local.{moved_near}
use Rattle.tag.specs.declared.Tags.{Tags}
use Rattle.tag.specs.Tag.{offset_of}
use Rattle.block.specs.Block.{corner, mid, tag_word, picture_tags, block_from, block_of}
use Rattle.block.specs.Claims.{PixelOf, BlockLaws, Tabled}
use Rattle.block.proofs.Cross.{cross, block_length, middle_word}
use Rattle.block.proofs.Locality.{in_window}
use Rattle.block.proofs.Standard.{block_settings}
use Rattle.block.proofs.Tabled.{thirteen, tabled}

-- a tag leads to a pixel of the picture, by clamped moves
module _ (w h : ℕ) (f : ℕ → ℕ → ℕ) (x y : ℕ) (hx : x < w) (hy : y < h) where
  led : (tag : ℕ) → PixelOf w h f (tag_word w h f x y tag)
  unfolding tag_word
  led tag =
      let o = offset_of tag in
      record {
        column = moved w x o.dx;
        row = moved h y o.dy;
        on_x = (moved_near w x o.dx hx).inside;
        on_y = (moved_near h y o.dy hy).inside;
        is = refl;
      }

  own_words : (t : Tags) (k : ℕ) → k < 9 → PixelOf w h f (get_or (block_from w h f x y t) k 0)
  unfolding block_from
  own_words t zero l = led (corner t.t0)
  own_words t (suc zero) l = led (mid t.t0)
  own_words t (suc (suc zero)) l = led (corner t.t1)
  own_words t (suc (suc (suc zero))) l = led (mid t.t3)
  own_words t (suc (suc (suc (suc zero)))) l = led 0
  own_words t (suc (suc (suc (suc (suc zero))))) l = led (mid t.t1)
  own_words t (suc (suc (suc (suc (suc (suc zero)))))) l = led (corner t.t3)
  own_words t (suc (suc (suc (suc (suc (suc (suc zero))))))) l = led (mid t.t2)
  own_words t (suc (suc (suc (suc (suc (suc (suc (suc zero)))))))) l = led (corner t.t2)
  own_words t (suc (suc (suc (suc (suc (suc (suc (suc (suc k))))))))) l = let none : ⊥ = omega arith in absurd none

pub block_laws : BlockLaws
unfolding block_of
block_laws = record {
  block_length = block_length;
  middle_word = middle_word;
  own_words = λ q w h f x y hx hy. own_words w h f x y hx hy (picture_tags q w h f x y);
  cross = cross;
  in_window = in_window;
  block_settings = block_settings;
}

pub table_holds : Tabled
table_holds = record { thirteen = thirteen; tabled = tabled }
