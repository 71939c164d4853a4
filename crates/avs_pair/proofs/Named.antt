-- Looking up by name in lists of which some elements are changed.
use Rattle.std.proofs.Common.{◌≡◌, inl, inr, Bool, true, false, cond, List, [], ◌∷◌, ◌++◌, map, Option, None, Some, ◌∙◌, refl, sym, ap}
use Rattle.std.specs.Prelude.{not, filter, find}
use Rattle.std.specs.Option.{option_map, option_map_or}
use Rattle.std.specs.Str.{bytes_eq}
use Rattle.std.proofs.lemmas.Bool.{cases_Bool}
use Rattle.std.proofs.lemmas.Option.{same_Some}
use Rattle.std.proofs.lemmas.Slice.Eq.{bytes_eq-Decides}
use Rattle.avs_model.specs.Hosts.{Name}
use Rattle.avs_mirrors.specs.MirrorHosts.{MirrorHalf, MirrorHost, Seat, Sent, half_at, is_half_of, no_half, put_half, with_seat, without_half}

-- ---- names

pub same_name : (a b : Name) → bytes_eq a b ≡ true → a ≡ b
same_name a b is = (bytes_eq-Decides a b).0 is

pub name_self : (a : Name) → bytes_eq a a ≡ true
name_self a = (bytes_eq-Decides a a).1 refl

-- ---- lists

pub find_map : {X : Type 0} (p : X → Bool) (f : X → X) → ((x : X) → p (f x) ≡ p x) → (xs : List X) → find p (map f xs) ≡ option_map f (find p xs)
find_map p f same [] = refl
find_map {X} p f same (x ∷ xs) = ap (λ (b : Bool). cond b (Some (f x)) (find p (map f xs))) (same x) ∙ by (p x) (find_map p f same xs)
  where
    by : (b : Bool) → find p (map f xs) ≡ option_map f (find p xs) → cond b (Some (f x)) (find p (map f xs)) ≡ option_map f (cond b (Some x) (find p xs))
    by true more = refl
    by false more = more

-- without those that fit
pub find_without : {X : Type 0} (p : X → Bool) (xs : List X) → find p (filter (λ x. not (p x)) xs) ≡ None
find_without p [] = refl
find_without {X} p (x ∷ xs) = elim (cases_Bool (p x)) [
  | inl is ↦ ap (λ (b : Bool). find p (cond (not b) (x ∷ filter (λ y. not (p y)) xs) (filter (λ y. not (p y)) xs))) is ∙ find_without p xs
  | inr off ↦
      ap (λ (b : Bool). find p (cond (not b) (x ∷ filter (λ y. not (p y)) xs) (filter (λ y. not (p y)) xs))) off
      ∙ ap (λ (b : Bool). cond b (Some x) (find p (filter (λ y. not (p y)) xs))) off
      ∙ find_without p xs
]

-- without others
pub find_among : {X : Type 0} (p q : X → Bool) → ((x : X) → p x ≡ true → q x ≡ true) → (xs : List X) → find p (filter q xs) ≡ find p xs
find_among p q stays [] = refl
find_among {X} p q stays (x ∷ xs) = elim (cases_Bool (p x)) [
  | inl is ↦
      ap (λ (b : Bool). find p (cond b (x ∷ filter q xs) (filter q xs))) (stays x is)
      ∙ ap (λ (b : Bool). cond b (Some x) (find p (filter q xs))) is
      ∙ sym (ap (λ (b : Bool). cond b (Some x) (find p xs)) is)
  | inr off ↦ by (q x) off ∙ find_among p q stays xs ∙ sym (ap (λ (b : Bool). cond b (Some x) (find p xs)) off)
]
  where
    by : (b : Bool) → p x ≡ false → find p (cond b (x ∷ filter q xs) (filter q xs)) ≡ find p (filter q xs)
    by true off = ap (λ (c : Bool). cond c (Some x) (find p (filter q xs))) off
    by false off = refl

-- with one more at the end
pub find_push : {X : Type 0} (p : X → Bool) (xs : List X) (y : X) → find p (xs ++ y ∷ []) ≡ option_map_or Some (find p xs) (cond (p y) (Some y) None)
find_push p [] y = refl
find_push {X} p (x ∷ xs) y = by (p x) (find_push p xs y)
  where
    by : (b : Bool) → find p (xs ++ y ∷ []) ≡ option_map_or Some (find p xs) (cond (p y) (Some y) None)
        → cond b (Some x) (find p (xs ++ y ∷ [])) ≡ option_map_or Some (cond b (Some x) (find p xs)) (cond (p y) (Some y) None)
    by true more = refl
    by false more = more

-- what is found fits
pub find_fits : {X : Type 0} (p : X → Bool) (xs : List X) (x : X) → find p xs ≡ Some x → p x ≡ true
find_fits p [] x is = absurd (cc)
find_fits {X} p (y ∷ xs) x is = elim (cases_Bool (p y)) [
  | inl fits ↦
      let one : Some y ≡ Some x = sym (ap (λ (b : Bool). cond b (Some y) (find p xs)) fits) ∙ is in
      let same : y ≡ x = same_Some y x one in
      sym (ap p same) ∙ fits
  | inr off ↦ find_fits p xs x (sym (ap (λ (b : Bool). cond b (Some y) (find p xs)) off) ∙ is)
]

-- ---- halves

find_put : (new : MirrorHalf) (halves : List MirrorHalf) → find (is_half_of new.group) (put_half new halves) ≡ Some new
find_put new [] = ap (λ (b : Bool). cond b (Some new) None) (name_self new.group)
find_put new (half ∷ halves) = by (is_half_of new.group half) refl (find_put new halves)
  where
    by : (b : Bool) → is_half_of new.group half ≡ b → find (is_half_of new.group) (put_half new halves) ≡ Some new
        → find (is_half_of new.group) (cond b (new ∷ halves) (half ∷ put_half new halves)) ≡ Some new
    by true is more = ap (λ (b : Bool). cond b (Some new) (find (is_half_of new.group) halves)) (name_self new.group)
    by false is more = ap (λ (b : Bool). cond b (Some half) (find (is_half_of new.group) (put_half new halves))) is ∙ more

find_beside : (other : Name) (new : MirrorHalf) (halves : List MirrorHalf) → bytes_eq other new.group ≡ false → find (is_half_of other) (put_half new halves) ≡ find (is_half_of other) halves
find_beside other new [] apart = ap (λ (b : Bool). cond b (Some new) None) apart
find_beside other new (half ∷ halves) apart = by (is_half_of new.group half) refl (find_beside other new halves apart)
  where
    by : (b : Bool) → is_half_of new.group half ≡ b → find (is_half_of other) (put_half new halves) ≡ find (is_half_of other) halves
        → find (is_half_of other) (cond b (new ∷ halves) (half ∷ put_half new halves)) ≡ find (is_half_of other) (half ∷ halves)
    by true is more =
        let gone : bytes_eq other half.group ≡ false = ap (bytes_eq other) (sym (same_name new.group half.group is)) ∙ apart in
        ap (λ (b : Bool). cond b (Some new) (find (is_half_of other) halves)) apart ∙ sym (ap (λ (b : Bool). cond b (Some half) (find (is_half_of other) halves)) gone)
    by false is more = ap (λ (o : Option MirrorHalf). cond (is_half_of other half) (Some half) o) more

pub half_there : (host : MirrorHost) (group : Name) (seat : Seat) (sent : Sent)
    → half_at (with_seat host group seat sent) group ≡ record { group = group; queue = (half_at host group).queue; seat = seat; sent = sent }
half_there host group seat sent =
    ap (λ (o : Option MirrorHalf). option_map_or (λ (half : MirrorHalf). half) o (no_half group)) (find_put (record { group = group; queue = (half_at host group).queue; seat = seat; sent = sent }) host.halves)

-- of another group
pub half_beside : (host : MirrorHost) (group other : Name) (seat : Seat) (sent : Sent) → bytes_eq other group ≡ false → half_at (with_seat host group seat sent) other ≡ half_at host other
half_beside host group other seat sent apart =
    ap (λ (o : Option MirrorHalf). option_map_or (λ (half : MirrorHalf). half) o (no_half other)) (find_beside other (record { group = group; queue = (half_at host group).queue; seat = seat; sent = sent }) host.halves apart)

-- of a group that is gone
pub half_gone : (host : MirrorHost) (group : Name) → half_at (record host { halves = without_half group host.halves }) group ≡ no_half group
half_gone host group = ap (λ (o : Option MirrorHalf). option_map_or (λ (half : MirrorHalf). half) o (no_half group)) (find_without (is_half_of group) host.halves)
