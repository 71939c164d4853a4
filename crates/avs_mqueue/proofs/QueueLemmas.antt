-- What a queue holds at a place, after an entry was added and after some were let go.
use Rattle.std.proofs.Common.{◌≡◌, ◌≢◌, ◌⊎◌, inl, inr, ℕ, zero, suc, ◌+◌, ◌-◌, ◌<◌, ◌≤◌, List, [], ◌∷◌, ◌++◌, length, drop, Some, None, ap, sym, refl, ◌∙◌, arith, length-append, length-drop}
use Rattle.std.specs.List.{slice_get}
use Rattle.std.proofs.Math.ListN.{drop_of_length-le}
use Rattle.std.proofs.lemmas.Bool.{cases_lt, cases_eq}
use Rattle.std.proofs.lemmas.Bool.Decides.{nat_tests}
use Rattle.std.proofs.lemmas.Option.{slice_get_past}
use Rattle.avs_model.specs.declared.entry.Entry.{Entry}
use Rattle.avs_mqueue.specs.Queue.{Queue, next_place, entry_at, Pushes, Advances}

-- an element of a list and one more
pub slice_get-append_left : {X : Type 0} (xs ys : List X) (i : ℕ) → i < length xs → slice_get (xs ++ ys) i ≡ slice_get xs i
slice_get-append_left [] ys i inside = absurd (omega arith)
slice_get-append_left (x ∷ xs) ys zero inside = refl
slice_get-append_left (x ∷ xs) ys (suc i) inside = slice_get-append_left xs ys i (omega arith)

pub slice_get-append_seam : {X : Type 0} (xs : List X) (y : X) → slice_get (xs ++ y ∷ []) (length xs) ≡ Some y
slice_get-append_seam [] y = refl
slice_get-append_seam (x ∷ xs) y = slice_get-append_seam xs y

pub slice_get-drop : {X : Type 0} (n : ℕ) (xs : List X) (i : ℕ) → slice_get (drop n xs) i ≡ slice_get xs (n + i)
slice_get-drop zero xs i = ap (λ (k : ℕ). slice_get xs k) (let e : i ≡ 0 + i = omega arith in e)
slice_get-drop (suc n) [] i = refl
slice_get-drop (suc n) (x ∷ xs) i =
    slice_get-drop n xs i ∙ ap (λ (k : ℕ). slice_get (x ∷ xs) k) (let e : suc (n + i) ≡ suc n + i = omega arith in e)

-- the entry of a place: none below the first place and none from the next one on
pub entry_at-below : (queue : Queue) (place : ℕ) → place < queue.first → entry_at queue place ≡ None
entry_at-below queue place low = grind (arith, nat_tests)

pub entry_at-from : (queue : Queue) (place : ℕ) → queue.first ≤ place → entry_at queue place ≡ slice_get queue.entries (place - queue.first)
entry_at-from queue place low = grind (arith, nat_tests)

pub entry_at-past : (queue : Queue) (place : ℕ) → next_place queue ≤ place → entry_at queue place ≡ None
entry_at-past queue place high =
    entry_at-from queue place (omega arith) ∙ slice_get_past queue.entries (place - queue.first) (omega arith)

-- one more entry
module _ (old new : Queue) (place : ℕ) (entry : Entry) (entries : new.entries ≡ old.entries ++ entry ∷ []) (is : new.first ≡ place - length old.entries) (follows : 0 < length old.entries → place ≡ next_place old) where
  first : new.first + length old.entries ≡ place
  first = elim (cases_eq (length old.entries) 0) [
    | inl none ↦ omega arith
    | inr some ↦ omega (arith, follows (omega arith))
  ]

  stays : 0 < length old.entries → new.first ≡ old.first
  stays some = omega (arith, follows some)

  more : length new.entries ≡ length old.entries + 1
  more = omega (arith, ap length entries, length-append old.entries (entry ∷ []))

  there : entry_at new place ≡ Some entry
  there =
      entry_at-from new place (omega (arith, first))
      ∙ ap (λ (k : ℕ). slice_get new.entries k) (let e : place - new.first ≡ length old.entries = omega (arith, first) in e)
      ∙ ap (λ (l : List Entry). slice_get l (length old.entries)) entries
      ∙ slice_get-append_seam old.entries entry

  none_held : (p : ℕ) → length old.entries ≡ 0 → p ≢ place → entry_at new p ≡ entry_at old p
  none_held p none other = elim (cases_lt p place) [
    | inl low ↦ entry_at-below new p (omega (arith, first)) ∙ sym (gone p)
    | inr high ↦ entry_at-past new p (omega (arith, more, first)) ∙ sym (gone p)
  ]
    where
      gone : (p : ℕ) → entry_at old p ≡ None
      gone p = elim (cases_lt p old.first) [
        | inl low ↦ entry_at-below old p low
        | inr high ↦ entry_at-past old p (omega arith)
      ]

  some_held : (p : ℕ) → 0 < length old.entries → p ≢ place → entry_at new p ≡ entry_at old p
  some_held p some other = elim (cases_lt p old.first) [
    | inl low ↦ entry_at-below new p (omega (arith, stays some)) ∙ sym (entry_at-below old p low)
    | inr high ↦ elim (cases_lt p place) [
      | inl inside ↦
          entry_at-from new p (omega (arith, stays some))
          ∙ ap (λ (k : ℕ). slice_get new.entries (p - k)) (stays some)
          ∙ ap (λ (l : List Entry). slice_get l (p - old.first)) entries
          ∙ slice_get-append_left old.entries (entry ∷ []) (p - old.first) (omega (arith, first, stays some))
          ∙ sym (entry_at-from old p high)
      | inr past ↦ entry_at-past new p (omega (arith, more, first)) ∙ sym (entry_at-past old p (omega (arith, first, stays some)))
    ]
  ]

  pub pushes : new.limits ≡ old.limits → Pushes old place entry new
  pushes limits = record {
    entries = entries;
    next = omega (arith, more, first);
    limits = limits;
    there = there;
    others = λ p other. elim (cases_eq (length old.entries) 0) [
      | inl none ↦ none_held p none other
      | inr some ↦ some_held p (omega arith) other
    ];
  }

-- the first k entries are gone: those at or below a place
module _ (old new : Queue) (upto k : ℕ) (entries : new.entries ≡ drop k old.entries) (first : new.first ≡ old.first + k) (inside : k ≤ length old.entries) (reached : k ≤ upto + 1 - old.first) (stopped : (k ≡ length old.entries) ⊎ (upto < new.first)) where
  fewer : length new.entries + k ≡ length old.entries
  fewer = omega (arith, ap length entries, length-drop k old.entries)

  dropped : drop k old.entries ≡ drop (upto + 1 - old.first) old.entries
  dropped = elim stopped [
    | inl all ↦ drop_of_length-le old.entries (omega arith) ∙ sym (drop_of_length-le old.entries (omega arith))
    | inr above ↦ ap (λ (n : ℕ). drop n old.entries) (omega arith)
  ]

  kept : (p : ℕ) → new.first ≤ p → entry_at new p ≡ entry_at old p
  kept p from =
      entry_at-from new p from
      ∙ ap (λ (l : List Entry). slice_get l (p - new.first)) entries
      ∙ slice_get-drop k old.entries (p - new.first)
      ∙ ap (λ (i : ℕ). slice_get old.entries i) (let e : k + (p - new.first) ≡ p - old.first = omega arith in e)
      ∙ sym (entry_at-from old p (omega arith))

  pub advances : new.limits ≡ old.limits → Advances old upto new
  advances limits = record {
    entries = entries ∙ dropped;
    next = omega (arith, fewer);
    limits = limits;
    gone = λ p low. elim stopped [
      | inl all ↦ elim (cases_lt p new.first) [
        | inl below ↦ entry_at-below new p below
        | inr from ↦ entry_at-past new p (omega (arith, fewer))
      ]
      | inr above ↦ entry_at-below new p (omega arith)
    ];
    others = λ p high. elim (cases_lt p new.first) [
      | inl below ↦ entry_at-below new p below ∙ sym (entry_at-below old p (omega arith))
      | inr from ↦ kept p from
    ];
    empties = λ all. entries ∙ dropped ∙ drop_of_length-le old.entries (omega arith);
  }
