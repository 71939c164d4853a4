-- Volumes of names and of disks: what a change at the place of a name makes of them.
use Rattle.std.proofs.Common.{◌≡◌, ℕ, ◌+◌, ◌≤◌, ◌<◌, suc, zero, Bool, true, false, not, cond, Option, None, Some, List, [], ◌∷◌, ◌++◌, map, filter, find, is_some, IfSome, slice_get, slice_set, slice_index_or, remove, length, take, unwrap_or, refl, sym, ap, ◌∙◌, true≢false, add-one, arith}
use Rattle.std.specs.List.{IsDistinct, AllByRecursion, cons_option}
use Rattle.std.specs.Option.{option_map, option_and_then}
use Rattle.std.specs.Str.{bytes_eq}
use Rattle.std.specs.Cmp.Lexicographic.{bytes_decides}
use Rattle.std.proofs.lemmas.Option.{slice_get-get_or}
use Rattle.avs_dev.specs.Seen.{Seen}
use Rattle.avs_stack.specs.Names.{Named, AreApart, is_named, named_in, has_name, with_roles, without_name}
use Rattle.avs_stack.specs.declared.roles.Roles.{Roles}
use Rattle.avs_host.specs.Resting.{disks_in}
use Rattle.avs_host.specs.Store.{StoreVolume, StoreSeen, volumes_with, is_of, changed, resting_in}

-- ---- names

-- none of them is that one
abbrev pub NoneNamed : List ℕ → List Named → Type 0
NoneNamed name names = AllByRecursion (λ one. is_named name one ≡ false) names

-- the one at that place has the name, and no other has it
abbrev pub OnlyAt : List ℕ → List Named → ℕ → Type 0
OnlyAt name [] place = ⊥
OnlyAt name (one ∷ names) zero = (is_named name one ≡ true) × NoneNamed name names
OnlyAt name (one ∷ names) (suc place) = (is_named name one ≡ false) × OnlyAt name names place

pub not_first : {X : Type 0} (b : Bool) (x : X) (rest : Option X) → is_some (cond b (Some x) rest) ≡ false → b ≡ false
not_first true x rest none = absurd (true≢false none)
not_first false x rest none = refl

pub behind : {X : Type 0} (b : Bool) (x : X) (rest : Option X) → is_some (cond b (Some x) rest) ≡ false → is_some rest ≡ false
behind true x rest none = absurd (true≢false none)
behind false x rest none = none

pub none_named : (name : List ℕ) (names : List Named) → has_name names name ≡ false → NoneNamed name names
none_named name [] none = tt
none_named name (one ∷ names) none =
    (not_first (is_named name one) one (named_in names name) none, none_named name names (behind (is_named name one) one (named_in names name) none))

pub is_same : {X : Type 0} (x y : X) → Some x ≡ Some y → x ≡ y
is_same x y same = ap (λ o. unwrap_or o x) same

-- two texts are equal one way as the other
pub turned : (b : Bool) (a c : List ℕ) → bytes_eq c a ≡ b → bytes_eq a c ≡ false → b ≡ false
turned true a c is other = absurd (true≢false (sym (ap (λ t. bytes_eq t c) (sym ((bytes_decides c a).0 is)) ∙ (bytes_decides c c).1 refl) ∙ other))
turned false a c is other = refl

-- the first one is not the one that is found behind it
first_other : (name : List ℕ) (one : Named) (names : List Named) (place : ℕ) (found : Named)
    → AllByRecursion (λ other. bytes_eq one.name other ≡ false) (map (λ volume. volume.name) names) → slice_get names place ≡ Some found → is_named name found ≡ true
    → is_named name one ≡ false
first_other name one [] place found apart at is = absurd (true≢false (ap is_some (sym at)))
first_other name one (next ∷ names) zero found apart at is =
    let same : name ≡ next.name = (bytes_decides name found.name).0 is ∙ ap (λ n. n.name) (sym (is_same next found at)) in
    ap (λ t. bytes_eq t one.name) same ∙ turned (bytes_eq next.name one.name) one.name next.name refl apart.0
first_other name one (next ∷ names) (suc place) found apart at is = first_other name one names place found apart.1 at is

later_others : (name : List ℕ) (one : Named) (names : List Named)
    → AllByRecursion (λ other. bytes_eq one.name other ≡ false) (map (λ volume. volume.name) names) → name ≡ one.name → NoneNamed name names
later_others name one [] apart same = tt
later_others name one (next ∷ names) apart same = (ap (λ t. bytes_eq t next.name) same ∙ apart.0, later_others name one names apart.1 same)

-- a name that is found at a place is there alone
pub only_at : (name : List ℕ) (names : List Named) (place : ℕ) (found : Named) → AreApart names → slice_get names place ≡ Some found → is_named name found ≡ true → OnlyAt name names place
unfolding IsDistinct
only_at name [] place found apart at is = absurd (true≢false (ap is_some (sym at)))
only_at name (one ∷ names) zero found apart at is =
    let same : name ≡ one.name = (bytes_decides name found.name).0 is ∙ ap (λ n. n.name) (sym (is_same one found at)) in
    ((bytes_decides name one.name).1 same, later_others name one names apart.0 same)
only_at name (one ∷ names) (suc place) found apart at is =
    (first_other name one names place found apart.0 at is, only_at name names place found apart.1 at is)

-- what is found by a name has it
at_first : (name : List ℕ) (one found : Named) (rest : Option Named) (b : Bool) → is_named name one ≡ b → (rest ≡ Some found → is_named name found ≡ true)
    → cond b (Some one) rest ≡ Some found → is_named name found ≡ true
at_first name one found rest true here later is = ap (is_named name) (sym (is_same one found is)) ∙ here
at_first name one found rest false here later is = later is

found_named : (name : List ℕ) (names : List Named) (found : Named) → named_in names name ≡ Some found → is_named name found ≡ true
found_named name [] found is = absurd (true≢false (ap is_some (sym is)))
found_named name (one ∷ names) found is =
    at_first name one found (named_in names name) (is_named name one) refl (λ later. found_named name names found later) is

-- the place that is told of a name
pub only_found : (name : List ℕ) (names : List Named) (place : ℕ) → AreApart names → has_name names name ≡ true → slice_get names place ≡ named_in names name → OnlyAt name names place
only_found name names place apart there at = by_found (named_in names name) refl there
  where
    by_found : (found : Option Named) → named_in names name ≡ found → is_some found ≡ true → OnlyAt name names place
    by_found None is some = absurd (true≢false (sym some))
    by_found (Some one) is some = only_at name names place one apart (at ∙ is) (found_named name names one is)

pub only_told : (name : List ℕ) (names : List Named) (told : Option ℕ) (place : ℕ) → told ≡ Some place → is_some told ≡ has_name names name
    → IfSome told (λ at. slice_get names at ≡ named_in names name) → AreApart names → OnlyAt name names place
only_told name names None place is found at apart = absurd (true≢false (ap is_some (sym is)))
only_told name names (Some other) place is found at apart =
    let same = is_same other place is in
    only_found name names place apart (sym found) (ap (slice_get names) (sym same) ∙ at)

pub none_told : (name : List ℕ) (names : List Named) (told : Option ℕ) → told ≡ None → is_some told ≡ has_name names name → NoneNamed name names
none_told name names told is found = none_named name names (sym found ∙ ap is_some is)

pub only_within : (name : List ℕ) (names : List Named) (place : ℕ) → OnlyAt name names place → place < length names
only_within name [] place only = absurd only
only_within name (one ∷ names) zero only = omega arith
only_within name (one ∷ names) (suc place) only = let later = only_within name names place only.1 in omega arith

-- what tests of an option say
pub is_none_by : {X : Type 0} (o : Option X) (b : Bool) → is_some o ≡ not b → b ≡ true → o ≡ None
is_none_by None b test none = refl
is_none_by (Some x) b test none = absurd (true≢false (test ∙ ap not none))

pub some_mapped : {X Y : Type 0} (f : X → Y) (o : Option X) → is_some (option_map f o) ≡ is_some o
some_mapped f None = refl
some_mapped f (Some x) = refl

-- what is read at a place of a list stands there
pub stands_at : {X : Type 0} (xs : List X) (place : ℕ) (x : X) → place < length xs → x ≡ slice_index_or xs place x → slice_get xs place ≡ Some x
stands_at xs place x inside value = slice_get-get_or xs place x inside ∙ ap (λ y. Some y) (sym value)

-- the store of these volumes
abbrev pub store_of : ℕ → List StoreVolume → StoreSeen
store_of stamp volumes = record { volumes = volumes; stamp = stamp }

-- one name is taken out
pub one_fewer : (name : List ℕ) (names : List Named) (place : ℕ) → OnlyAt name names place → length (without_name names name) + 1 ≡ length names
one_fewer name [] place only = absurd only
one_fewer name (one ∷ names) zero only =
    ap (λ b. length (cond (not b) (one ∷ without_name names name) (without_name names name)) + 1) only.0
    ∙ ap (λ l. length l + 1) (all_stay names only.1) ∙ omega arith
  where
    all_stay : (rest : List Named) → NoneNamed name rest → without_name rest name ≡ rest
    all_stay [] none = refl
    all_stay (next ∷ rest) none =
        ap (λ b. cond (not b) (next ∷ without_name rest name) (without_name rest name)) none.0 ∙ ap (λ l. next ∷ l) (all_stay rest none.1)
one_fewer name (one ∷ names) (suc place) only =
    let fewer = one_fewer name names place only.1 in
    ap (λ b. length (cond (not b) (one ∷ without_name names name) (without_name names name)) + 1) only.0 ∙ omega arith

-- ---- volumes

module _ {D : Type 0} (seen : D → Seen) where
  pub kept_names : (names : List Named) (disks : List (Option D)) → length disks ≡ length names → map (λ volume. volume.kept) (volumes_with seen names disks) ≡ names
  kept_names [] disks long = refl
  kept_names (one ∷ names) [] long = absurd (omega arith)
  kept_names (one ∷ names) (disk ∷ disks) long = ap (λ l. one ∷ l) (kept_names names disks (omega arith))

  -- a volume behind the others
  pub one_more : (one : Named) (disk : Option D) (names : List Named) (disks : List (Option D)) → length disks ≡ length names
      → volumes_with seen (names ++ one ∷ []) (disks ++ disk ∷ []) ≡ volumes_with seen names disks ++ record { kept = one; disk = option_map seen disk } ∷ []
  one_more one disk [] [] long = refl
  one_more one disk [] (other ∷ disks) long = absurd (omega arith)
  one_more one disk (first ∷ names) [] long = absurd (omega arith)
  one_more one disk (first ∷ names) (other ∷ disks) long =
      ap (λ l. record { kept = first; disk = option_map seen other } ∷ l) (one_more one disk names disks (omega arith))

  module _ (name : List ℕ) where
    -- where there is no such name, nothing is found, and nothing changes
    pub none_found : (names : List Named) (disks : List (Option D)) → NoneNamed name names
        → option_and_then (λ volume. volume.disk) (find (is_of name) (volumes_with seen names disks)) ≡ None
    none_found [] disks none = refl
    none_found (one ∷ names) [] none = refl
    none_found (one ∷ names) (disk ∷ disks) none =
        let rest = find (is_of name) (volumes_with seen names disks) in
        ap (λ b. option_and_then (λ volume. volume.disk) (cond b (Some (record { kept = one; disk = option_map seen disk })) rest)) none.0
        ∙ none_found names disks none.1

    pub none_changed : (change : StoreVolume → StoreVolume) (names : List Named) (disks : List (Option D)) → NoneNamed name names
        → volumes_with seen names disks ≡ changed name change (volumes_with seen names disks)
    none_changed change [] disks none = refl
    none_changed change (one ∷ names) [] none = refl
    none_changed change (one ∷ names) (disk ∷ disks) none =
        let first : StoreVolume = record { kept = one; disk = option_map seen disk } in
        let rest = volumes_with seen names disks in
        ap (λ l. first ∷ l) (none_changed change names disks none.1)
        ∙ ap (λ b. cond b (change first) first ∷ changed name change rest) (sym none.0)

    none_gone : (names : List Named) (disks : List (Option D)) → NoneNamed name names
        → volumes_with seen (without_name names name) disks ≡ filter (λ volume. not (is_of name volume)) (volumes_with seen names disks)
    none_gone [] disks none = refl
    none_gone (one ∷ names) [] none =
        ap (λ b. volumes_with seen (cond (not b) (one ∷ without_name names name) (without_name names name)) []) none.0
    none_gone (one ∷ names) (disk ∷ disks) none =
        let first : StoreVolume = record { kept = one; disk = option_map seen disk } in
        let rest = filter (λ volume. not (is_of name volume)) (volumes_with seen names disks) in
        ap (λ b. volumes_with seen (cond (not b) (one ∷ without_name names name) (without_name names name)) (disk ∷ disks)) none.0
        ∙ ap (λ l. first ∷ l) (none_gone names disks none.1)
        ∙ ap (λ b. cond (not b) (first ∷ rest) rest) (sym none.0)

    -- the disk that is found is the one at the place
    pub disk_found : (names : List Named) (disks : List (Option D)) (place : ℕ) (disk : Option D) → OnlyAt name names place → slice_get disks place ≡ Some disk
        → option_and_then (λ volume. volume.disk) (find (is_of name) (volumes_with seen names disks)) ≡ option_map seen disk
    disk_found [] disks place disk only at = absurd only
    disk_found (one ∷ names) [] place disk only at = absurd (true≢false (ap is_some (sym at)))
    disk_found (one ∷ names) (first ∷ disks) zero disk only at =
        let rest = find (is_of name) (volumes_with seen names disks) in
        ap (λ b. option_and_then (λ volume. volume.disk) (cond b (Some (record { kept = one; disk = option_map seen first })) rest)) only.0
        ∙ ap (option_map seen) (is_same first disk at)
    disk_found (one ∷ names) (first ∷ disks) (suc place) disk only at =
        let rest = find (is_of name) (volumes_with seen names disks) in
        ap (λ b. option_and_then (λ volume. volume.disk) (cond b (Some (record { kept = one; disk = option_map seen first })) rest)) only.0
        ∙ disk_found names disks place disk only.1 at

    -- a disk set at the place is one set by the name
    pub disk_set : (names : List Named) (disks : List (Option D)) (place : ℕ) (disk : Option D) → OnlyAt name names place
        → volumes_with seen names (slice_set disks place disk) ≡ changed name (λ volume. record volume { disk = option_map seen disk }) (volumes_with seen names disks)
    disk_set [] disks place disk only = refl
    disk_set (one ∷ names) [] place disk only = refl
    disk_set (one ∷ names) (first ∷ disks) zero disk only =
        let old : StoreVolume = record { kept = one; disk = option_map seen first } in
        let new : StoreVolume = record { kept = one; disk = option_map seen disk } in
        let change : StoreVolume → StoreVolume = λ volume. record volume { disk = option_map seen disk } in
        let rest = volumes_with seen names disks in
        ap (λ l. new ∷ l) (none_changed change names disks only.1) ∙ ap (λ b. cond b new old ∷ changed name change rest) (sym only.0)
    disk_set (one ∷ names) (first ∷ disks) (suc place) disk only =
        let old : StoreVolume = record { kept = one; disk = option_map seen first } in
        let new : StoreVolume = record { kept = one; disk = option_map seen disk } in
        let change : StoreVolume → StoreVolume = λ volume. record volume { disk = option_map seen disk } in
        let rest = volumes_with seen names disks in
        ap (λ l. old ∷ l) (disk_set names disks place disk only.1) ∙ ap (λ b. cond b new old ∷ changed name change rest) (sym only.0)

    -- what is taken out at the place is taken out by the name
    pub taken_out : (names : List Named) (disks : List (Option D)) (place : ℕ) (disk : Option D) → OnlyAt name names place → slice_get disks place ≡ Some disk
        → volumes_with seen (without_name names name) (remove disks place) ≡ filter (λ volume. not (is_of name volume)) (volumes_with seen names disks)
    taken_out [] disks place disk only at = absurd only
    taken_out (one ∷ names) [] place disk only at = absurd (true≢false (ap is_some (sym at)))
    taken_out (one ∷ names) (first ∷ disks) zero disk only at =
        let old : StoreVolume = record { kept = one; disk = option_map seen first } in
        let rest = filter (λ volume. not (is_of name volume)) (volumes_with seen names disks) in
        ap (λ b. volumes_with seen (cond (not b) (one ∷ without_name names name) (without_name names name)) disks) only.0
        ∙ none_gone names disks only.1
        ∙ ap (λ b. cond (not b) (old ∷ rest) rest) (sym only.0)
    taken_out (one ∷ names) (first ∷ disks) (suc place) disk only at =
        let old : StoreVolume = record { kept = one; disk = option_map seen first } in
        let rest = filter (λ volume. not (is_of name volume)) (volumes_with seen names disks) in
        ap (λ b. volumes_with seen (cond (not b) (one ∷ without_name names name) (without_name names name)) (first ∷ remove disks place)) only.0
        ∙ ap (λ l. old ∷ l) (taken_out names disks place disk only.1 at)
        ∙ ap (λ b. cond (not b) (old ∷ rest) rest) (sym only.0)

    -- roles given by the name
    one_given : (b : Bool) (roles : Roles) (one : Named) (disk : Option Seen)
        → ◌≡◌ {A = StoreVolume} (record { kept = cond b (record one { roles = roles }) one; disk = disk })
        (cond b (record { kept = record one { roles = roles }; disk = disk }) (record { kept = one; disk = disk }))
    one_given true roles one disk = refl
    one_given false roles one disk = refl

    pub roles_given : (roles : Roles) (names : List Named) (disks : List (Option D))
        → volumes_with seen (with_roles names name roles) disks ≡ changed name (λ volume. record volume { kept = record (volume.kept) { roles = roles } }) (volumes_with seen names disks)
    roles_given roles [] disks = refl
    roles_given roles (one ∷ names) [] = refl
    roles_given roles (one ∷ names) (disk ∷ disks) =
        λ i. one_given (is_named name one) roles one (option_map seen disk) i ∷ roles_given roles names disks i

  -- ---- disks by number

  -- the disk at a place has as its number how many stand before it
  pub at_number : (names : List Named) (disks : List (Option D)) (place : ℕ) (disk : D) → length disks ≡ length names → slice_get disks place ≡ Some (Some disk)
      → (one : Named) × (slice_get names place ≡ Some one) × (slice_get (resting_in (volumes_with seen names disks)) (length (disks_in (take place disks))) ≡ Some (one.name, seen disk))
  at_number names [] place disk long at = absurd (true≢false (ap is_some (sym at)))
  at_number [] (first ∷ disks) place disk long at = absurd (omega arith)
  at_number (one ∷ names) (None ∷ disks) zero disk long at = absurd (true≢false (ap is_some (sym (is_same None (Some disk) at))))
  at_number (one ∷ names) (Some first ∷ disks) zero disk long at =
      (one, refl, ap (λ d. Some (one.name, seen d)) (is_same first disk (is_same (Some first) (Some disk) at)))
  at_number (one ∷ names) (None ∷ disks) (suc place) disk long at = at_number names disks place disk (omega arith) at
  at_number (one ∷ names) (Some first ∷ disks) (suc place) disk long at = at_number names disks place disk (omega arith) at

  -- there are as many as are at rest
  pub as_many : (names : List Named) (disks : List (Option D)) → length (resting_in (volumes_with seen names disks)) ≤ length (disks_in disks)
  as_many [] disks = omega arith
  as_many (one ∷ names) [] = omega arith
  as_many (one ∷ names) (None ∷ disks) = as_many names disks
  as_many (one ∷ names) (Some disk ∷ disks) = let rest = as_many names disks in omega arith

  -- a disk that is seen as before
  pub same_seen : (names : List Named) (disks : List (Option D)) (place : ℕ) (old new : D) → slice_get disks place ≡ Some (Some old) → seen new ≡ seen old
      → volumes_with seen names (slice_set disks place (Some new)) ≡ volumes_with seen names disks
  same_seen [] disks place old new at same = refl
  same_seen (one ∷ names) [] place old new at same = refl
  same_seen (one ∷ names) (first ∷ disks) zero old new at same =
      ap (λ d. record { kept = one; disk = d } ∷ volumes_with seen names disks) (ap (λ s. Some s) same ∙ ap (option_map seen) (is_same (Some old) first (sym at)))
  same_seen (one ∷ names) (first ∷ disks) (suc place) old new at same =
      ap (λ l. record { kept = one; disk = option_map seen first } ∷ l) (same_seen names disks place old new at same)

pub few : {D : Type 0} (disks : List (Option D)) → length (disks_in disks) ≤ length disks
few [] = omega arith
few (None ∷ disks) = let rest = few disks in omega arith
few (Some disk ∷ disks) = let rest = few disks in omega arith

-- behind one more place there is one more disk where one is at rest there
next_none : {D : Type 0} (disks : List (Option D)) (place : ℕ) → slice_get disks place ≡ Some None
    → length (disks_in (take (suc place) disks)) ≡ length (disks_in (take place disks))
next_none [] place at = absurd (true≢false (ap is_some (sym at)))
next_none (first ∷ disks) zero at = ap (λ o. length (cons_option o [])) (is_same first None at)
next_none (None ∷ disks) (suc place) at = next_none disks place at
next_none (Some disk ∷ disks) (suc place) at = ap suc (next_none disks place at)

next_some : {D : Type 0} (disks : List (Option D)) (place : ℕ) (disk : D) → slice_get disks place ≡ Some (Some disk)
    → length (disks_in (take (suc place) disks)) ≡ suc (length (disks_in (take place disks)))
next_some [] place disk at = absurd (true≢false (ap is_some (sym at)))
next_some (first ∷ disks) zero disk at = ap (λ o. length (cons_option o [])) (is_same first (Some disk) at)
next_some (None ∷ disks) (suc place) disk at = next_some disks place disk at
next_some (Some other ∷ disks) (suc place) disk at = ap suc (next_some disks place disk at)

pub one_more_none : {D : Type 0} (disks : List (Option D)) (place : ℕ) → slice_get disks place ≡ Some None
    → length (disks_in (take (place + 1) disks)) ≡ length (disks_in (take place disks))
one_more_none disks place at = ap (λ n. length (disks_in (take n disks))) (add-one place) ∙ next_none disks place at

pub one_more_some : {D : Type 0} (disks : List (Option D)) (place : ℕ) (disk : D) → slice_get disks place ≡ Some (Some disk)
    → length (disks_in (take (place + 1) disks)) ≡ length (disks_in (take place disks)) + 1
one_more_some disks place disk at =
    ap (λ n. length (disks_in (take n disks))) (add-one place) ∙ next_some disks place disk at ∙ sym (add-one (length (disks_in (take place disks))))

pub some_there : {X : Type 0} (o : Option X) → is_some o ≡ true → (x : X) × (o ≡ Some x)
some_there None some = absurd (true≢false (sym some))
some_there (Some x) some = (x, refl)
