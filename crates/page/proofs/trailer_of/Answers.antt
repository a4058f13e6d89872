-- `page::trailer_of` meets its contract. Assumes nothing.
use mathlib.Core.Path.{◌≡◌, refl}
use Prim.Native.Nat.{◌*◌}
use native.Mathlib.Omega.{arith}
use Rattle.page.specs.Page.{little_endian, width, height, back, mark}
use Rattle.page.proofs.Trailers.{short, unmarked, wrong, right, is_bad, is_right}
use Rattle.page.proofs.trailer_of.Goals as goal

pub returns-then-n-lt12 : goal.returns-then-n-lt12
returns-then-n-lt12 c =
    let f = c.args.file.now in is_bad f _ refl (short f c.if-n-lt12.true)

pub returns-then-word_at-ne-MARK : goal.returns-then-word_at-ne-MARK
unfolding mark
returns-then-word_at-ne-MARK c =
    let is_mark : c.word_at.result ≡ little_endian (mark c.args.file.now) = c.word_at.ensures.0 in
    let f = c.args.file.now in
    is_bad f _ refl (unmarked f c.word_at.result is_mark (λ e. omega (arith, c.if-word_at-ne-MARK.true)))

pub returns-then-back-w : goal.returns-then-back-w
unfolding back width height
returns-then-back-w c =
    let is_back : c.word_at-back.result ≡ back c.args.file.now = c.word_at-back.ensures.0 in
    let is_w : c.half_at-w.result ≡ width c.args.file.now = c.half_at-w.ensures.0 in
    let is_h : c.half_at-h.result ≡ height c.args.file.now = c.half_at-h.ensures.0 in
    let is_count : c.half_at-w.result * c.half_at-h.result ≡ width c.args.file.now * height c.args.file.now = cc (is_w, is_h) in
    is_bad c.args.file.now _ refl
    (wrong c.args.file.now (λ e. omega (arith, c.if-back-w.true, is_back, is_count)))

pub returns : goal.returns
unfolding width height back mark
returns c =
    let is_w : c.half_at-w.result ≡ width c.args.file.now = c.half_at-w.ensures.0 in
    let is_h : c.half_at-h.result ≡ height c.args.file.now = c.half_at-h.ensures.0 in
    let is_back : c.word_at-back.result ≡ back c.args.file.now = c.word_at-back.ensures.0 in
    let is_count : c.half_at-w.result * c.half_at-h.result ≡ width c.args.file.now * height c.args.file.now = cc (is_w, is_h) in
    let is_mark : c.word_at.result ≡ little_endian (mark c.args.file.now) = c.word_at.ensures.0 in
    is_right c.args.file.now _ (λ i. record { refusal = 0; w = is_w i; h = is_h i; back = is_back i })
    (right c.args.file.now c.if-n-lt12.false (λ i. (c.type_inv.file i).fits) (omega (arith, c.if-word_at-ne-MARK.false, is_mark))
    (omega (arith, c.if-back-w.false, is_back, is_count)))
