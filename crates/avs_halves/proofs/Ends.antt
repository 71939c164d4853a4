-- Lists that are taken apart at one end and put together at another.
use Rattle.std.proofs.Common.{◌≡◌, List, [], ◌∷◌, ◌++◌, map, reverse, refl, sym, ◌∙◌, ap, append_assoc}
use Rattle.std.proofs.lemmas.List.{reverse-append, reverse-reverse, map-append}
use Rattle.std.proofs.lemmas.Grind.{reverse_onto}

-- the last of one list goes to the end of another, which is told backwards
pub pop_push : {A : Type 0} (front : List A) (x : A) (behind : List A) → front ++ reverse (behind ++ x ∷ []) ≡ (front ++ x ∷ []) ++ reverse behind
pop_push front x behind = ap (λ l. front ++ l) (reverse-append behind (x ∷ [])) ∙ sym (append_assoc front (x ∷ []) (reverse behind))

pub map-reverse : {A B : Type 0} (f : A → B) (xs : List A) → map f (reverse xs) ≡ reverse (map f xs)
map-reverse f [] = refl
map-reverse f (x ∷ xs) = ap (λ l. map f l) (reverse_onto xs x []) ∙ map-append f (reverse xs) (x ∷ []) ∙ ap (λ l. l ++ f x ∷ []) (map-reverse f xs) ∙ sym (reverse_onto (map f xs) (f x) [])

-- a list told backwards, of which one item stands between others
pub reverse_around : {A : Type 0} (behind : List A) (x : A) (front : List A) → reverse (behind ++ x ∷ reverse front) ≡ front ++ x ∷ reverse behind
reverse_around behind x front =
    reverse-append behind (x ∷ reverse front) ∙ ap (λ l. l ++ reverse behind) (reverse_onto (reverse front) x [] ∙ ap (λ l. l ++ x ∷ []) (reverse-reverse front)) ∙ append_assoc front (x ∷ []) (reverse behind)
