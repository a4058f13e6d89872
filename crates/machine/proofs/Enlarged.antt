-- A session in terms of the calls that enlarge a picture whole, for every lawful screen: what such a call writes is the present picture with
-- every block drawn. Assumes nothing.
use mathlib.Core.Path.{◌≡◌, sym, ap, ◌∙◌}
use mathlib.Core.Bool.{true, false}
use mathlib.Core.List.{List}
use Prim.Native.Nat.{ℕ, ◌*◌, ◌≤◌, ◌<◌}
use native.Mathlib.Omega.{arith}
use lib.ListN.{length, take, length-take}
use lib.Seq.{get_or-take}
use Rattle.clarity.specs.declared.Clarity.{Clarity}
use Rattle.clarity.specs.Clarity.{lawful_of}
use Rattle.machine.specs.Screen.{Screen, Lawful, block_words, place}
use Rattle.machine.specs.Machine.{block_at}
use Rattle.machine.specs.Demand3.{whole}
use Rattle.machine.specs.Calls.{side_long}
use Rattle.machine.specs.Claims.{Leaves, AsEnlarged}
use Rattle.machine.proofs.Lists.{table_same}
use Rattle.machine.proofs.Places.{spot_lt}
use Rattle.machine.proofs.Demand3.{every, sizes, picture_met, ended_whole}

module _ (S : Screen) (L : Lawful S) where
  -- a block of the picture stands in the front of an output
  block_front : (w h bx by : ℕ) (o : List ℕ) → bx < w → by < h → block_at S w h bx by o ≡ block_at S w h bx by (take (block_words S * (w * h)) o)
  block_front w h bx by o x y =
      table_same (block_words S) _ _ (λ k l.
      sym (get_or-take (block_words S * (w * h)) o (place S w bx by k) 0 (spot_lt S.scale w L.scaled h bx by k x y l)))

  pub as_enlarged : (Enlarges : Clarity → ℕ → ℕ → List ℕ → List ℕ → Type 0)
      → ((c : Clarity) (w h : ℕ) (p o : List ℕ) → Enlarges c w h p o → take (block_words S * (w * h)) o ≡ whole S w h c (take (w * h) p))
      → ((c : Clarity) (w h : ℕ) (p : List ℕ) → side_long S.side w h ≡ false → w * h ≤ length p → lawful_of c ≡ true → Leaves Enlarges c w h p)
      → AsEnlarged S Enlarges
  as_enlarged Enlarges is can = record {
    not_refused = λ {w} {h} {stale} {c} {b} {e} {cs} {rs} {last} t.
        let s = sizes S L w h c b t in
        can c w h e.picture s.0 (omega (arith, picture_met S L w h c b t, length-take (w * h) e.picture)) s.2;
    shows_scaled = λ {w} {h} {stale} {c} {b} {e} {cs} {rs} {last} {o} t d bx by x y fresh.
        (((every S L).each t).blocks bx by x y fresh).0 ∙ ap (block_at S w h bx by) (sym (is c w h e.picture o d)) ∙ sym (block_front w h bx by o x y);
    ends_scaled = λ {w} {h} {stale} {c} {b} {e} {cs} {rs} {last} {o} t d z. ended_whole S L t z ∙ sym (is c w h e.picture o d);
  }
