-- The part of a buffer that is held, before and after some of it is taken.
use Rattle.std.proofs.Common.{◌≡◌, ℕ, ◌+◌, ◌-◌, ◌≤◌, ◌<◌, List, [], ◌∷◌, ◌++◌, Option, length, take, drop, take-append-drop, length-take, sym, ◌∙◌, ap, append_assoc, arith}
use Rattle.std.proofs.lemmas.List.{drop-take, drop-drop}
use Rattle.std.specs.Io.KnownBytes.{prepend_known}
use Rattle.avs_seg.specs.Lines.{IsBeforeFeed, line_feed}
use Rattle.avs_io.proofs.KnownLemmas.{prepend_known-nil, prepend_known-prepend_known}

abbrev part : List ℕ → ℕ → ℕ → List ℕ
part buffer start end = take (end - start) (drop start buffer)

drop-part : (buffer : List ℕ) (start end n : ℕ) → n ≤ length (part buffer start end) → drop n (part buffer start end) ≡ part buffer (start + n) end
drop-part buffer start end n le =
    let count : end - start ≡ n + (end - (start + n)) = omega (arith, length-take (end - start) (drop start buffer)) in
    ap (λ m. drop n (take m (drop start buffer))) count
    ∙ drop-take n (end - (start + n)) (drop start buffer)
    ∙ ap (take (end - (start + n))) (drop-drop n start buffer)

-- the bytes before a line feed were taken
pub piece_taken : (buffer piece : List ℕ) (start end : ℕ) (known : Option (List ℕ)) → IsBeforeFeed piece (part buffer start end)
    → prepend_known (part buffer start end) known ≡ prepend_known piece (prepend_known (part buffer (start + length piece) end) known)
piece_taken buffer piece start end known is =
    let n = length piece in
    let held = part buffer start end in
    let split : held ≡ piece ++ part buffer (start + n) end =
    sym (take-append-drop n held) ∙ (λ i. sym is.front i ++ drop-part buffer start end n is.inside i) in
    ap (λ (bytes : List ℕ). prepend_known bytes known) split
    ∙ sym (prepend_known-prepend_known piece (part buffer (start + n) end) known)

-- and the line feed behind them
pub feed_taken : (buffer piece : List ℕ) (start end : ℕ) (known : Option (List ℕ)) → IsBeforeFeed piece (part buffer start end) → length piece < length (part buffer start end)
    → prepend_known (part buffer start end) known ≡ prepend_known (piece ++ line_feed ∷ []) (prepend_known (part buffer (start + length piece + 1) end) known)
feed_taken buffer piece start end known is lt =
    let n = length piece in
    let held = part buffer start end in
    let place : start + (n + 1) ≡ start + n + 1 = omega arith in
    let rest : drop (n + 1) held ≡ part buffer (start + n + 1) end =
    drop-part buffer start end (n + 1) (omega arith) ∙ ap (λ s. part buffer s end) place in
    let split : held ≡ (piece ++ line_feed ∷ []) ++ part buffer (start + n + 1) end =
    is.feed lt ∙ ap (λ (bytes : List ℕ). piece ++ line_feed ∷ bytes) rest ∙ sym (append_assoc piece (line_feed ∷ []) (part buffer (start + n + 1) end)) in
    ap (λ (bytes : List ℕ). prepend_known bytes known) split
    ∙ sym (prepend_known-prepend_known (piece ++ line_feed ∷ []) (part buffer (start + n + 1) end) known)

-- nothing is held
pub none_held : (buffer : List ℕ) (start end : ℕ) (known : Option (List ℕ)) → end ≤ start → prepend_known (part buffer start end) known ≡ known
none_held buffer start end known le =
    let none : end - start ≡ 0 = omega arith in
    ap (λ n. prepend_known (take n (drop start buffer)) known) none ∙ prepend_known-nil known
