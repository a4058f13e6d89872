-- `page3x::main`: the text lies in its buffer. Assumes nothing.
use Rattle.std.proofs.Common.{sym}
use lib.Seq.{length-take-le}
use Rattle.text.proofs.Sizes.{inside_text}
use Rattle.page3x.proofs.main.Goals as goal

pub slice_bounds-text-end : goal.slice_bounds-text-end
slice_bounds-text-end c = inside_text _ _ _ _ c.page_text-k.ensures

pub slice_bounds-write_all-end : goal.slice_bounds-write_all-end
slice_bounds-write_all-end c = sym (length-take-le _ _ (inside_text _ _ _ _ c.page_text-k.ensures))
