-- What is kept of a line, and what is held, where some bytes more are given.
use Rattle.std.proofs.Common.{◌≡◌, ℕ, ◌+◌, ◌-◌, ◌≤◌, ◌<◌, Bool, List, ◌++◌, length, min, take, drop, take-append-drop, length-take, length-append, sym, ◌∙◌, ap, subst, append_assoc, arith}
use Rattle.std.proofs.Math.Seq.{take-append-add}
use Rattle.std.proofs.lemmas.List.{take_at, take_min, take-take, drop-take, drop-drop}
use Rattle.std.proofs.lemmas.List.Elements.{All-take}
use Rattle.std.specs.Prelude.{All, slice_index, ◌==◌, ◌≢◌}
use Rattle.avs_seg.specs.Lines.{line_feed}
use Rattle.avs_told.specs.Kept.{Kept, kept_limit, begun, grown, IsOfOneLine}

kept_more : (bytes piece new : List ℕ) (len count : ℕ) → length bytes ≡ kept_limit → len ≤ kept_limit → count ≡ min (length piece) (kept_limit - len)
    → new ≡ take len bytes ++ (take count piece ++ drop (len + length (take count piece)) bytes) → take (len + count) new ≡ take kept_limit (take len bytes ++ piece)
kept_more bytes piece new len count sized short is put =
    let front = take len bytes in
    let rest = drop (len + length (take count piece)) bytes in
    let size : length front ≡ len = omega (arith, length-take len bytes, sized, short) in
    let count_size : length (take count piece) ≡ count = omega (arith, length-take count piece, is) in
    let room : kept_limit ≡ length front + (kept_limit - len) = omega (arith, size, short) in
    let least : count ≡ min (kept_limit - len) (length piece) = omega (arith, is) in
    let part : take count piece ≡ take (kept_limit - len) piece = ap (λ n. take n piece) least ∙ take_min (kept_limit - len) piece in
    let all : length (front ++ take count piece) ≡ len + count = omega (arith, length-append front (take count piece), size, count_size) in
    ap (take (len + count)) (put ∙ sym (append_assoc front (take count piece) rest))
    ∙ take_at (front ++ take count piece) rest (len + count) all
    ∙ ap (λ (bytes : List ℕ). front ++ bytes) part
    ∙ sym (ap (λ n. take n (front ++ piece)) room ∙ take-append-add front piece (kept_limit - len))

-- some bytes more were put behind those that are kept
pub grown-kept : (old : Kept) (bytes piece new : List ℕ) (len count number : ℕ) (fed : Bool) → length bytes ≡ kept_limit → len ≤ kept_limit → count ≡ min (length piece) (kept_limit - len)
    → new ≡ take len bytes ++ (take count piece ++ drop (len + length (take count piece)) bytes) → begun old ≡ record { line = take len bytes; number = number; fed = fed }
    → record { line = take (len + count) new; number = number; fed = slice_index piece (length piece - 1) == line_feed } ≡ grown old piece
grown-kept old bytes piece new len count number fed sized short is put same =
    let lines : take (len + count) new ≡ take kept_limit ((begun old).line ++ piece) =
    kept_more bytes piece new len count sized short is put ∙ ap (λ (kept : Kept). take kept_limit (kept.line ++ piece)) (sym same) in
    let numbers : number ≡ (begun old).number = ap (λ (kept : Kept). kept.number) (sym same) in
    (λ i. record { line = lines i; number = numbers i; fed = slice_index piece (length piece - 1) == line_feed })

abbrev part : List ℕ → ℕ → ℕ → List ℕ
part buffer start end = take (end - start) (drop start buffer)

drop-part : (buffer : List ℕ) (start end n : ℕ) → n ≤ length (part buffer start end) → drop n (part buffer start end) ≡ part buffer (start + n) end
drop-part buffer start end n le =
    let count : end - start ≡ n + (end - (start + n)) = omega (arith, length-take (end - start) (drop start buffer)) in
    ap (λ m. drop n (take m (drop start buffer))) count
    ∙ drop-take n (end - (start + n)) (drop start buffer)
    ∙ ap (take (end - (start + n))) (drop-drop n start buffer)

-- the bytes that were copied are those of the line
pub given-is : (line out given : List ℕ) (n : ℕ) → n ≤ length line → given ≡ take n line → take n (given ++ drop n out) ≡ take n line
given-is line out given n le is =
    let size : length given ≡ n = omega (arith, ap length is, length-take n line) in
    take_at given (drop n out) n size ∙ is

-- the first bytes of those held were given
pub held-given : (buffer line given : List ℕ) (start end n : ℕ) → n ≤ length line → length line ≤ length (part buffer start end) → line ≡ take (length line) (part buffer start end)
    → given ≡ take n line → part buffer start end ≡ given ++ part buffer (start + n) end
held-given buffer line given start end n le inside front is =
    let held = part buffer start end in
    let first : given ≡ take n held = is ∙ ap (take n) front ∙ take-take n (length line) held le in
    sym (take-append-drop n held) ∙ (λ i. sym first i ++ drop-part buffer start end n (omega (arith, le, inside)) i)

-- and are of one line where the line is
pub one-line-given : (line given : List ℕ) (n : ℕ) → 0 < n → n ≤ length line → given ≡ take n line → IsOfOneLine line → IsOfOneLine given
one-line-given line given n some le is one =
    let size : length given ≡ n = omega (arith, ap length is, length-take n line) in
    let m = length given - 1 in
    let inner : take m given ≡ take m (take (length line - 1) line) =
    ap (take m) is ∙ take-take m n line (omega (arith, size)) ∙ sym (take-take m (length line - 1) line (omega (arith, size, le))) in
    record { before = record { others = subst (All (λ byte. byte ≢ line_feed)) (sym inner) (All-take (λ byte. byte ≢ line_feed) m (take (length line - 1) line) one.before.others) } }
