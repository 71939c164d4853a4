use Rattle.std.proofs.Common.{◌≡◌, ℕ, ◌+◌, ◌-◌, List, length, take, drop, replicate, ◌∙◌, ap, arith}
use Rattle.std.proofs.lemmas.List.{length-take-le, length-drop}
use Rattle.std.specs.List.{slice_index}
use borrow.Rule.Slice.PartMut.{put_mid}
use Rattle.avs_refs.proofs.Stacks.{slice_index-put_mid}
use Rattle.avs_refs.proofs.refs.set_places.Goals as goal

pub returns : goal.returns
returns c = λ seg within.
    let greatest = c.args.greatest.now in
    let touch = c.args.touch in
    let first = touch.first in
    let count : first + touch.count - first ≡ touch.count = omega arith in
    let long : length (take (first + touch.count - first) (drop first greatest)) ≡ touch.count = length-take-le (first + touch.count - first) (drop first greatest) (omega (arith, length-drop first greatest)) ∙ count in
    ap (λ (k : ℕ). slice_index (put_mid first k greatest c.fill.new.self) seg) count
    ∙ ap (λ (l : List ℕ). slice_index (put_mid first touch.count greatest l) seg) (c.fill.ensures.after (λ y is. is) ∙ ap (λ (k : ℕ). replicate k touch.place) long)
    ∙ slice_index-put_mid greatest first touch.count touch.place seg c.requires
