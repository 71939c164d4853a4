-- What a change by a name makes of the names and of the disks of a store.
use Rattle.std.proofs.Common.{◌≡◌, ℕ, Bool, true, false, not, cond, if◌then◌else◌, Option, None, Some, List, [], ◌∷◌, ◌++◌, map, filter, find, is_some, refl, sym, ap, ◌∙◌, true≢false}
use Rattle.std.specs.Option.{option_and_then}
use Rattle.std.specs.Str.{bytes_eq}
use Rattle.std.specs.Cmp.Lexicographic.{bytes_decides}
use Rattle.avs_dev.specs.Seen.{Seen}
use Rattle.avs_stack.specs.Names.{Named, no_roles, named_in, has_name, with_name, with_roles, without_name}
use Rattle.avs_stack.specs.declared.roles.Roles.{Roles}
use Rattle.avs_host.specs.Store.{StoreVolume, is_of, changed}
use Rattle.avs_host.proofs.Volumes.{not_first, behind}

-- the disk that is found by a name
abbrev pub disk_in : List ℕ → List StoreVolume → Option Seen
disk_in name volumes = option_and_then (λ volume. volume.disk) (find (is_of name) volumes)

abbrev set_to : Option Seen → StoreVolume → StoreVolume
set_to disk volume = record volume { disk = disk }

-- the first of two, or what is found behind it
first_or : (b : Bool) (volume : StoreVolume) (rest : Option StoreVolume)
    → option_and_then (λ one. one.disk) (cond b (Some volume) rest) ≡ cond b volume.disk (option_and_then (λ one. one.disk) rest)
first_or true volume rest = refl
first_or false volume rest = refl

same_name : (b : Bool) (disk : Option Seen) (volume : StoreVolume) → (cond b (set_to disk volume) volume).kept ≡ volume.kept
same_name true disk volume = refl
same_name false disk volume = refl

pub same_names : (name : List ℕ) (disk : Option Seen) (volumes : List StoreVolume)
    → map (λ volume. volume.kept) (changed name (set_to disk) volumes) ≡ map (λ volume. volume.kept) volumes
same_names name disk [] = refl
same_names name disk (volume ∷ volumes) = λ i. same_name (is_of name volume) disk volume i ∷ same_names name disk volumes i

-- the volume of the name has the disk
own_first : (name : List ℕ) (disk : Option Seen) (volume : StoreVolume) (rest : Option StoreVolume) (others : Option Named) (b : Bool) → is_of name volume ≡ b
    → (is_some others ≡ true → option_and_then (λ one. one.disk) rest ≡ disk) → is_some (cond b (Some volume.kept) others) ≡ true
    → option_and_then (λ one. one.disk) (cond (is_of name (cond b (set_to disk volume) volume)) (Some (cond b (set_to disk volume) volume)) rest) ≡ disk
own_first name disk volume rest others true here later there = first_or _ (set_to disk volume) rest ∙ ap (λ b. cond b disk (option_and_then (λ one. one.disk) rest)) here
own_first name disk volume rest others false here later there =
    first_or _ volume rest ∙ ap (λ b. cond b volume.disk (option_and_then (λ one. one.disk) rest)) here ∙ later there

pub own_disk : (name : List ℕ) (disk : Option Seen) (volumes : List StoreVolume) → has_name (map (λ volume. volume.kept) volumes) name ≡ true
    → disk_in name (changed name (set_to disk) volumes) ≡ disk
own_disk name disk [] there = absurd (true≢false (sym there))
own_disk name disk (volume ∷ volumes) there =
    own_first name disk volume (find (is_of name) (changed name (set_to disk) volumes)) (named_in (map (λ one. one.kept) volumes) name) (is_of name volume) refl
    (λ later. own_disk name disk volumes later) there

-- none is left where it is taken, also where there is no such name
none_first : (name : List ℕ) (volume : StoreVolume) (rest : Option StoreVolume) (b : Bool) → is_of name volume ≡ b → option_and_then (λ one. one.disk) rest ≡ None
    → option_and_then (λ one. one.disk) (cond (is_of name (cond b (set_to None volume) volume)) (Some (cond b (set_to None volume) volume)) rest) ≡ None
none_first name volume rest true here later = first_or _ (set_to None volume) rest ∙ ap (λ b. cond b None (option_and_then (λ one. one.disk) rest)) here
none_first name volume rest false here later =
    first_or _ volume rest ∙ ap (λ b. cond b volume.disk (option_and_then (λ one. one.disk) rest)) here ∙ later

pub none_left : (name : List ℕ) (volumes : List StoreVolume) → disk_in name (changed name (set_to None) volumes) ≡ None
none_left name [] = refl
none_left name (volume ∷ volumes) =
    none_first name volume (find (is_of name) (changed name (set_to None) volumes)) (is_of name volume) refl (none_left name volumes)

-- those of other names have theirs
other_first : (name other : List ℕ) (disk : Option Seen) (volume : StoreVolume) (new old : Option StoreVolume) (b : Bool) → is_of name volume ≡ b → bytes_eq other name ≡ false
    → option_and_then (λ one. one.disk) new ≡ option_and_then (λ one. one.disk) old
    → option_and_then (λ one. one.disk) (cond (is_of other (cond b (set_to disk volume) volume)) (Some (cond b (set_to disk volume) volume)) new)
    ≡ option_and_then (λ one. one.disk) (cond (is_of other volume) (Some volume) old)
other_first name other disk volume new old true here differ later =
    let not_it = ap (bytes_eq other) (sym ((bytes_decides name volume.kept.name).0 here)) ∙ differ in
    first_or _ (set_to disk volume) new
    ∙ ap (λ b. cond b disk (option_and_then (λ one. one.disk) new)) not_it
    ∙ later
    ∙ ap (λ b. cond b volume.disk (option_and_then (λ one. one.disk) old)) (sym not_it)
    ∙ sym (first_or _ volume old)
other_first name other disk volume new old false here differ later =
    first_or _ volume new ∙ ap (λ rest. cond (is_of other volume) volume.disk rest) later ∙ sym (first_or _ volume old)

pub other_disk : (name other : List ℕ) (disk : Option Seen) (volumes : List StoreVolume) → bytes_eq other name ≡ false
    → disk_in other (changed name (set_to disk) volumes) ≡ disk_in other volumes
other_disk name other disk [] differ = refl
other_disk name other disk (volume ∷ volumes) differ =
    other_first name other disk volume (find (is_of other) (changed name (set_to disk) volumes)) (find (is_of other) volumes) (is_of name volume) refl differ
    (other_disk name other disk volumes differ)

-- ---- a new volume

more_names : (last : StoreVolume) (volumes : List StoreVolume)
    → map (λ volume. volume.kept) (volumes ++ last ∷ []) ≡ map (λ volume. volume.kept) volumes ++ last.kept ∷ []
more_names last [] = refl
more_names last (volume ∷ volumes) = ap (λ l. volume.kept ∷ l) (more_names last volumes)

pub named_more : (name : List ℕ) (number : ℕ) (disk : Option Seen) (volumes : List StoreVolume) → has_name (map (λ volume. volume.kept) volumes) name ≡ false
    → map (λ volume. volume.kept) (volumes ++ record { kept = record { name = name; number = number; roles = no_roles }; disk = disk } ∷ [])
    ≡ with_name (map (λ volume. volume.kept) volumes) name number
named_more name number disk volumes free =
    let one : Named = record { name = name; number = number; roles = no_roles } in
    let names = map (λ volume. volume.kept) volumes in
    more_names (record { kept = one; disk = disk }) volumes ∙ ap (λ b. if b then names else names ++ one ∷ []) (sym free)

pub own_more : (name : List ℕ) (last : StoreVolume) (volumes : List StoreVolume) → is_of name last ≡ true → has_name (map (λ volume. volume.kept) volumes) name ≡ false
    → disk_in name (volumes ++ last ∷ []) ≡ last.disk
own_more name last [] same free = ap (λ b. option_and_then (λ one. one.disk) (cond b (Some last) None)) same
own_more name last (volume ∷ volumes) same free =
    let others = named_in (map (λ one. one.kept) volumes) name in
    first_or _ volume (find (is_of name) (volumes ++ last ∷ []))
    ∙ ap (λ b. cond b volume.disk (disk_in name (volumes ++ last ∷ []))) (not_first (is_of name volume) volume.kept others free)
    ∙ own_more name last volumes same (behind (is_of name volume) volume.kept others free)

pub other_more : (other : List ℕ) (last : StoreVolume) (volumes : List StoreVolume) → is_of other last ≡ false
    → disk_in other (volumes ++ last ∷ []) ≡ disk_in other volumes
other_more other last [] differ = ap (λ b. option_and_then (λ one. one.disk) (cond b (Some last) None)) differ
other_more other last (volume ∷ volumes) differ =
    first_or _ volume (find (is_of other) (volumes ++ last ∷ []))
    ∙ ap (λ rest. cond (is_of other volume) volume.disk rest) (other_more other last volumes differ)
    ∙ sym (first_or _ volume (find (is_of other) volumes))

-- ---- a volume that is taken out

kept_or : (b : Bool) (volume : StoreVolume) (rest : List StoreVolume) (names : List Named) → map (λ one. one.kept) rest ≡ names
    → map (λ one. one.kept) (cond b (volume ∷ rest) rest) ≡ cond b (volume.kept ∷ names) names
kept_or true volume rest names same = ap (λ l. volume.kept ∷ l) same
kept_or false volume rest names same = same

pub named_fewer : (name : List ℕ) (volumes : List StoreVolume)
    → map (λ volume. volume.kept) (filter (λ volume. not (is_of name volume)) volumes) ≡ without_name (map (λ volume. volume.kept) volumes) name
named_fewer name [] = refl
named_fewer name (volume ∷ volumes) =
    kept_or (not (is_of name volume)) volume (filter (λ one. not (is_of name one)) volumes) (without_name (map (λ one. one.kept) volumes) name) (named_fewer name volumes)

gone_first : (name : List ℕ) (volume : StoreVolume) (rest : List StoreVolume) (b : Bool) → is_of name volume ≡ b → disk_in name rest ≡ None
    → disk_in name (cond (not b) (volume ∷ rest) rest) ≡ None
gone_first name volume rest true here later = later
gone_first name volume rest false here later = first_or _ volume (find (is_of name) rest) ∙ ap (λ b. cond b volume.disk (disk_in name rest)) here ∙ later

pub own_fewer : (name : List ℕ) (volumes : List StoreVolume) → disk_in name (filter (λ volume. not (is_of name volume)) volumes) ≡ None
own_fewer name [] = refl
own_fewer name (volume ∷ volumes) =
    gone_first name volume (filter (λ one. not (is_of name one)) volumes) (is_of name volume) refl (own_fewer name volumes)

stays_first : (name other : List ℕ) (volume : StoreVolume) (rest volumes : List StoreVolume) (b : Bool) → is_of name volume ≡ b → bytes_eq other name ≡ false
    → disk_in other rest ≡ disk_in other volumes → disk_in other (cond (not b) (volume ∷ rest) rest) ≡ disk_in other (volume ∷ volumes)
stays_first name other volume rest volumes true here differ later =
    let not_it = ap (bytes_eq other) (sym ((bytes_decides name volume.kept.name).0 here)) ∙ differ in
    later ∙ ap (λ b. cond b volume.disk (disk_in other volumes)) (sym not_it) ∙ sym (first_or _ volume (find (is_of other) volumes))
stays_first name other volume rest volumes false here differ later =
    first_or _ volume (find (is_of other) rest)
    ∙ ap (λ disk. cond (is_of other volume) volume.disk disk) later
    ∙ sym (first_or _ volume (find (is_of other) volumes))

pub other_fewer : (name other : List ℕ) (volumes : List StoreVolume) → bytes_eq other name ≡ false
    → disk_in other (filter (λ volume. not (is_of name volume)) volumes) ≡ disk_in other volumes
other_fewer name other [] differ = refl
other_fewer name other (volume ∷ volumes) differ =
    stays_first name other volume (filter (λ one. not (is_of name one)) volumes) volumes (is_of name volume) refl differ (other_fewer name other volumes differ)

-- ---- roles

abbrev give : Roles → StoreVolume → StoreVolume
give roles volume = record volume { kept = record (volume.kept) { roles = roles } }

one_given : (b : Bool) (roles : Roles) (volume : StoreVolume)
    → (cond b (give roles volume) volume).kept ≡ cond b (record (volume.kept) { roles = roles }) volume.kept
one_given true roles volume = refl
one_given false roles volume = refl

pub named_given : (name : List ℕ) (roles : Roles) (volumes : List StoreVolume)
    → map (λ volume. volume.kept) (changed name (give roles) volumes) ≡ with_roles (map (λ volume. volume.kept) volumes) name roles
named_given name roles [] = refl
named_given name roles (volume ∷ volumes) = λ i. one_given (is_of name volume) roles volume i ∷ named_given name roles volumes i

given_first : (other : List ℕ) (roles : Roles) (volume : StoreVolume) (new old : Option StoreVolume) (b : Bool)
    → option_and_then (λ one. one.disk) new ≡ option_and_then (λ one. one.disk) old
    → option_and_then (λ one. one.disk) (cond (is_of other (cond b (give roles volume) volume)) (Some (cond b (give roles volume) volume)) new)
    ≡ option_and_then (λ one. one.disk) (cond (is_of other volume) (Some volume) old)
given_first other roles volume new old true later =
    first_or _ (give roles volume) new ∙ ap (λ rest. cond (is_of other volume) volume.disk rest) later ∙ sym (first_or _ volume old)
given_first other roles volume new old false later =
    first_or _ volume new ∙ ap (λ rest. cond (is_of other volume) volume.disk rest) later ∙ sym (first_or _ volume old)

pub disks_given : (name other : List ℕ) (roles : Roles) (volumes : List StoreVolume)
    → disk_in other (changed name (give roles) volumes) ≡ disk_in other volumes
disks_given name other roles [] = refl
disks_given name other roles (volume ∷ volumes) =
    given_first other roles volume (find (is_of other) (changed name (give roles) volumes)) (find (is_of other) volumes) (is_of name volume) (disks_given name other roles volumes)
