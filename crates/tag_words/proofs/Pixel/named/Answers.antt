-- `tag_words::Pixel::named` meets its contract. Assumes nothing.
use Rattle.picture.specs.Picture.{words}
use Rattle.block.specs.Block.{tag_word}
use Rattle.tag_words.proofs.Offsets.{word_of}
use Rattle.tag_words.proofs.Pixel.named.Goals as goal

pub returns : goal.returns
unfolding tag_word
returns c =
    let p = c.args.self in
    word_of (words p.picture.w p.picture.words.now) p.picture.w p.picture.h p.x p.y c.args.tag _ _ c.neighbor_offset-o.ensures c.get.ensures
