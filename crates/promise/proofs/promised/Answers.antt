-- `promise::promised` meets its contract: every clause of the promise is a theorem. Assumes nothing.
use Rattle.colour.proofs.Theorem.{nearness_laws}
use Rattle.single.proofs.RootTheorems.{root_laws}
use Rattle.clarity.proofs.Claims.{settings}
use Rattle.metric.proofs.Laws.{distance_laws}
use Rattle.weight.proofs.Laws.{weight_laws}
use Rattle.junction.proofs.Laws.{junction_laws}
use Rattle.tag.proofs.Unpack.{tag_laws}
use Rattle.block.proofs.Theorem.{block_laws, table_holds}
use Rattle.sizes.specs.Examples.{whole_orders}
use Rattle.whole.proofs.Theorem.{whole_laws}
use Rattle.whole_palette.proofs.Theorem.{palette_laws}
use Rattle.whole_palette.specs.Examples.{palette_orders}
use Rattle.header.proofs.Laws.{lock_laws}
use Rattle.machine.specs.Examples.{orders}
use Rattle.machine.specs.ListExamples.{list_examples}
use Rattle.machine.proofs.Demand3.{every}
use Rattle.machine.proofs.Turns.{items_at_start}
use Rattle.machine.proofs.Locked.{locked_stays}
use Rattle.three.specs.Three.{screen3}
use Rattle.three.specs.Examples.{crosses}
use Rattle.three.proofs.Three.{lawful3}
use Rattle.nine.specs.Nine.{screen9}
use Rattle.nine.specs.Examples.{boxes}
use Rattle.nine.proofs.Nine.{lawful9, block_laws9}
use Rattle.page.specs.Examples.{file_examples}
use Rattle.text.specs.Examples.{text_examples}
use Rattle.page.proofs.Files.{whole_file}
use Rattle.promise.proofs.Scaled3 as Scaled3
use Rattle.promise.proofs.Scaled9 as Scaled9
use Rattle.promise.proofs.promised.Goals as goal

pub returns : goal.returns
returns c = record {
  three_times = every screen3 lawful3;
  nine_times = every screen9 lawful9;
  three_times_scaled = Scaled3.as_scaled;
  nine_times_scaled = Scaled9.as_scaled;
  crosses = crosses;
  boxes = boxes;
  items_at_start = items_at_start screen3;
  items_at_start9 = items_at_start screen9;
  locked_stays = locked_stays screen3 lawful3;
  locked_stays9 = locked_stays screen9 lawful9;
  lock = lock_laws;
  orders = orders;
  lists = list_examples;
  root = root_laws;
  distance = distance_laws;
  settings = settings;
  weight = weight_laws;
  junction = junction_laws;
  tag = tag_laws;
  block = block_laws;
  block9 = block_laws9;
  table = table_holds;
  whole = whole_laws;
  whole_orders = whole_orders;
  nearness = nearness_laws;
  palette = palette_laws;
  palette_orders = palette_orders;
  page = whole_file;
  files = file_examples;
  texts = text_examples;
}
