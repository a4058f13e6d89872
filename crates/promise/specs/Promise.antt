-- What is promised, in one place: a clause for each theorem. A clause names a claim, which is stated in the file that it is taken from, beside
-- its definitions; what a single call does is that call's own contract and has no clause. Definitions only.
use Rattle.colour.specs.Claims.{NearnessLaws}
use Rattle.single.specs.Claims.{RootLaws}
use Rattle.clarity.specs.Claims.{Settings}
use Rattle.metric.specs.Claims.{DistanceLaws}
use Rattle.weight.specs.Claims.{WeightLaws}
use Rattle.junction.specs.Claims.{JunctionLaws}
use Rattle.tag.specs.Claims.{TagLaws}
use Rattle.block.specs.Claims.{BlockLaws, Tabled}
use Rattle.sizes.specs.Examples.{WholeOrders}
use Rattle.whole.specs.Claims.{WholeLaws, Enlarges3, Enlarges9}
use Rattle.whole_palette.specs.Claims.{PaletteLaws}
use Rattle.whole_palette.specs.Examples.{PaletteOrders}
use Rattle.header.specs.Claims.{LockLaws}
use Rattle.machine.specs.Demand3.{Demand3}
use Rattle.machine.specs.Claims.{ItemsAtStart, LockedStays, AsEnlarged, Named}
use Rattle.machine.specs.Examples.{Orders}
use Rattle.machine.specs.ListExamples.{ListExamples}
use Rattle.three.specs.Three.{screen3}
use Rattle.nine.specs.Nine.{screen9}
use Rattle.nine.specs.Claims.{BlockLaws9}
use Rattle.page.specs.Claims.{WholeFile}
use Rattle.page.specs.Examples.{FileExamples}
use Rattle.text.specs.Examples.{TextExamples}

pub record Promise : Type 0 where
  -- demand 3, of the three-times and of the nine-times session
  pub three_times : Demand3 screen3
  pub nine_times : Demand3 screen9
  -- what both show is what `scale` and `scale9x` write
  pub three_times_scaled : AsEnlarged screen3 Enlarges3
  pub nine_times_scaled : AsEnlarged screen9 Enlarges9
  -- how many blocks a paint names in a picture of 32 by 32, away from the borders, in the first corner and in the last
  pub crosses : Named screen3 120 40 33
  pub boxes : Named screen9 272 81 72
  -- the items of a paint list are decided at its start, and what is locked stays, on both screens
  pub items_at_start : ItemsAtStart screen3
  pub items_at_start9 : ItemsAtStart screen9
  pub locked_stays : LockedStays screen3
  pub locked_stays9 : LockedStays screen9
  -- a lock of no area holds nothing, and one that is not refused nothing outside the picture
  pub lock : LockLaws
  -- the order of the checks, and what comes of some paint lists, by computation
  pub orders : Orders
  pub lists : ListExamples
  -- section 2, the root
  pub root : RootLaws
  -- section 3, distances, settings and weights
  pub distance : DistanceLaws
  pub settings : Settings
  pub weight : WeightLaws
  -- section 4, junction numbers
  pub junction : JunctionLaws
  -- section 5, tag numbers
  pub tag : TagLaws
  -- section 6, the block: its words are the picture's, and what it depends on; the same of the nine-times block; the table T1 to T13
  pub block : BlockLaws
  pub block9 : BlockLaws9
  pub table : Tabled
  -- section 8, whole pictures, and the order of their checks
  pub whole : WholeLaws
  pub whole_orders : WholeOrders
  -- request 8: how near two colours are, whole pictures with a palette, and the order of their checks
  pub nearness : NearnessLaws
  pub palette : PaletteLaws
  pub palette_orders : PaletteOrders
  -- section 9, a page is all of its file; what is read of some files, and what is printed of some pages
  pub page : WholeFile
  pub files : FileExamples
  pub texts : TextExamples
