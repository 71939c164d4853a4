-- Sets that are opened one after another, from the end of a list.
use Rattle.std.proofs.Common.{◌≡◌, ℕ, ◌-◌, ◌<◌, List, [], ◌∷◌, ◌++◌, map, length, reverse, Some, sym, ◌∙◌, ap, subst, arith, append_assoc}
use Rattle.std.specs.List.{All}
use Rattle.std.proofs.lemmas.List.{reverse-append, reverse-reverse, length-reverse, get_or-reverse, map_push}
use Rattle.std.proofs.lemmas.List.Elements.{All-pop, All-map, All-same, All-weaker}
use Rattle.avs_dev.specs.declared.back.Why.{Why}
use Rattle.avs_sync.specs.Parts.{MirrorSet}
use Rattle.avs_halves.specs.SetBits.{SetBits, part_of}
use Rattle.avs_halves.specs.Loading.{IsOpenable, OpensSet, OpenRefused, OpensAll, StopsAt, LoadsSets, OneRefused}
use Rattle.avs_halves.proofs.Ends.{pop_push, map-reverse, reverse_around}

pub All-reverse : {X : Type 0} (P : X → Type 0) (xs : List X) → All P xs → All P (reverse xs)
All-reverse P xs all = λ k d lt.
    let within : k < length xs = subst (λ (n : ℕ). k < n) (length-reverse xs) lt in
    subst P (sym (get_or-reverse xs k d within)) (all (length xs - 1 - k) d (omega (arith, within)))

-- a set is as it is found on its own part
pub opened_self : (sizes : List ℕ) (part : MirrorSet) (s : SetBits) → OpensSet sizes part s → OpensSet sizes (part_of s) s
opened_self sizes part s o = subst (λ (p : MirrorSet). OpensSet sizes p s) (sym o.as_found) o

module _ {X : Type 0} (F : X → MirrorSet) (xs ys : List X) (x : X) (popped : xs ≡ ys ++ x ∷ []) where
  mapped : map F xs ≡ map F ys ++ F x ∷ []
  mapped = ap (λ (l : List X). map F l) popped ∙ map_push F ys x

  pub all_popped : (P : MirrorSet → Type 0) → All P (map F xs) → All P (map F ys) × P (F x)
  all_popped P all = All-pop P (map F xs) (map F ys) (Some (F x)) mapped all

  module _ (front : List SetBits) where
    pub whole_step : (s : SetBits) → part_of s ≡ F x → map part_of (front ++ s ∷ []) ++ reverse (map F ys) ≡ map part_of front ++ reverse (map F xs)
    whole_step s is =
        ap (λ (l : List MirrorSet). l ++ reverse (map F ys)) (map_push part_of front s ∙ ap (λ (p : MirrorSet). map part_of front ++ p ∷ []) is) ∙ sym (pop_push (map part_of front) (F x) (map F ys)) ∙ sym (ap (λ (l : List MirrorSet). map part_of front ++ reverse l) mapped)

    -- where the whole list was another one
    module _ (whole : List X) (so : map part_of front ++ reverse (map F xs) ≡ reverse (map F whole)) where
      pub stops_at : (sizes : List ℕ) (why : Why) (given_back : MirrorSet) → All (λ s. OpensSet sizes (part_of s) s) front → OpenRefused sizes (F x) why given_back → (left : List MirrorSet) → left ≡ map F ys ++ given_back ∷ [] → StopsAt sizes (map F whole) why left front
      stops_at sizes why given_back each refused left are = record {
        behind = map F ys;
        part = F x;
        given_back = given_back;
        given = sym (reverse-reverse (map F whole)) ∙ ap reverse (sym so) ∙ reverse-append (map part_of front) (reverse (map F xs)) ∙ ap (λ (l : List MirrorSet). l ++ reverse (map part_of front)) (reverse-reverse (map F xs) ∙ mapped) ∙ append_assoc (map F ys) (F x ∷ []) (reverse (map part_of front));
        are_left = are;
        each = each;
        refused = refused;
      }

-- ---- the parts in their own order

module _ {X : Type 0} (F : X → MirrorSet) (sizes : List ℕ) (sets : List MirrorSet) (items room : List X) (given : map F items ≡ sets) (turned : room ≡ reverse items) where
  back_again : reverse (map F room) ≡ sets
  back_again = ap (λ (l : List X). reverse (map F l)) turned ∙ ap reverse (map-reverse F items) ∙ reverse-reverse (map F items) ∙ given

  pub all_turned : (P : MirrorSet → Type 0) → All P sets → All P (map F room)
  all_turned P all = All-same P (map F room) (reverse sets) (sym (reverse-reverse (map F room)) ∙ ap reverse back_again) (All-reverse P sets all)

  pub loads_all : (new : List SetBits) → OpensAll sizes (map F room) new → LoadsSets sizes sets new
  loads_all new o = record { as_found = o.as_found ∙ back_again; each = o.each }

  pub one_refused : (why : Why) (left back : List MirrorSet) (new : List SetBits) → StopsAt sizes (map F room) why left new → back ≡ map part_of new ++ reverse left → OneRefused sizes sets why back
  one_refused why left back new s is = record {
    front = map part_of new;
    part = s.part;
    left = s.given_back;
    behind = reverse s.behind;
    given = sym back_again ∙ ap reverse s.given ∙ reverse_around s.behind s.part (map part_of new);
    handed_back = is ∙ ap (λ (l : List MirrorSet). map part_of new ++ l) (ap reverse s.are_left ∙ reverse-append s.behind (s.given_back ∷ []));
    found = All-map (IsOpenable sizes) part_of new (All-weaker (λ s. OpensSet sizes (part_of s) s) (λ s. IsOpenable sizes (part_of s)) (λ s o. o.openable) new s.each);
    refused = s.refused;
  }
