-- A stage of a half of a group makes of the half what its move makes.
use Rattle.std.proofs.Common.{◌≡◌, inl, inr, ℕ, true, false, nat_eq, map, Option, None, Some, ◌∙◌, refl, sym, ap, arith}
use Rattle.std.specs.Prelude.{not, find}
use Rattle.std.specs.Option.{option_map, option_map_or}
use Rattle.std.specs.Str.{bytes_eq}
use Rattle.std.proofs.lemmas.Bool.{cases_Bool}
use Rattle.avs_model.specs.Hosts.{HostState, Name}
use Rattle.avs_model.specs.HostPlaces.{image_of}
use Rattle.avs_mirrors.specs.Due.{Keys, zero_of}
use Rattle.avs_mirrors.specs.Half.{HalfState, is_sending}
use Rattle.avs_mirrors.specs.HalfStages.{contents_after, due_after, seat_after, set_after}
use Rattle.avs_mirrors.specs.MirrorHosts.{HalfStage, MirrorHalf, MirrorHost, PairSet, NamedKeys, Seat, Sent, half_at, is_set_in, is_set_named, mirror_set_of, with_seat}
use Rattle.avs_mirrors.specs.PairOf.{HaveOwnNames, IsHalfOf, IsOneSet, seat_of}
use Rattle.avs_pair.proofs.Named.{find_map, half_there}

-- ---- the sets of a half

-- a set of the half is in the group exactly where it is here
pub in_here : (names : ℕ → Name) (group : Name) (host : MirrorHost) (h : HalfState) (key : ℕ) → IsHalfOf names group host h → (o : IsOneSet names host h key) → bytes_eq group o.set.group ≡ h.here key
in_here names group host h key is o =
    sym (is.here key ∙ ap (λ (x : Option PairSet). option_map_or (λ (set : PairSet). bytes_eq group set.group) x false) o.found)

-- what a stage makes of a set is what the half has of it then
pub record Follows (group : Name) (half : MirrorHalf) (stage : HalfStage) (new : MirrorHost) (h : HalfState) (key : ℕ) (set : PairSet) : Type 0 where
  pub image : h.images key ≡ image_of new.own set.volume
  pub contents : h.contents key ≡ contents_after group stage set
  pub due : (seg : ℕ) → h.due key seg ≡ due_after group half stage set seg

-- a stage that changes sets one by one
pub record Steps (names : ℕ → Name) (group : Name) (host : MirrorHost) (h : HalfState) (stage : HalfStage) (new : MirrorHost) (k : HalfState) : Type 0 where
  pub sets : new.sets ≡ map (set_after group (half_at host group) stage) host.sets
  pub here : (key : ℕ) → k.here key ≡ h.here key
  pub on : (key : ℕ) → k.on key ≡ true → h.on key ≡ true
  pub follows : (key : ℕ) → k.on key ≡ true → (o : IsOneSet names host h key) → Follows group (half_at host group) stage new k key o.set
  pub seat : (half_at new group).seat ≡ seat_of names k
  pub plain : is_sending k ≡ false → (key seg : ℕ) → zero_of (k.due key seg) ≡ k.due key seg

pub stepped : (names : ℕ → Name) (group : Name) (host : MirrorHost) (h : HalfState) (stage : HalfStage) (new : MirrorHost) (k : HalfState) → IsHalfOf names group host h → Steps names group host h stage new k → IsHalfOf names group new k
stepped names group host h stage new k is s = record { here = here; sets = sets; seat = s.seat; plain = s.plain }
  where
    half : MirrorHalf
    half = half_at host group

    change : PairSet → PairSet
    change = set_after group half stage

    found : (name : Name) → mirror_set_of new name ≡ option_map change (mirror_set_of host name)
    found name = ap (find (is_set_named name)) s.sets ∙ find_map (is_set_named name) change (λ set. refl) host.sets

    same_group : (o : Option PairSet) → option_map_or (λ (set : PairSet). bytes_eq group set.group) (option_map change o) false ≡ option_map_or (λ (set : PairSet). bytes_eq group set.group) o false
    same_group None = refl
    same_group (Some set) = refl

    here : (key : ℕ) → k.here key ≡ is_set_in new group (names key)
    here key = s.here key ∙ is.here key ∙ sym (ap (λ (x : Option PairSet). option_map_or (λ (set : PairSet). bytes_eq group set.group) x false) (found (names key)) ∙ same_group (mirror_set_of host (names key)))

    sets : (key : ℕ) → k.on key ≡ true → IsOneSet names new k key
    sets key on =
        let o : IsOneSet names host h key = is.sets key (s.on key on) in
        let f : Follows group half stage new k key o.set = s.follows key on o in
        record { set = change o.set; found = found (names key) ∙ ap (option_map change) o.found; named = o.named; image = f.image; contents = f.contents; due = f.due }

-- ---- where the half stands

pub seated : (names : ℕ → Name) (group : Name) (host : MirrorHost) (h : HalfState) (stage : HalfStage) (sent : Sent) → (half_at host group).seat ≡ seat_of names h
    → (half_at (with_seat host group (seat_after (half_at host group).seat stage) sent) group).seat ≡ seat_after (seat_of names h) stage
seated names group host h stage sent is =
    ap (λ (half : MirrorHalf). half.seat) (half_there host group (seat_after (half_at host group).seat stage) sent)
    ∙ ap (λ (seat : Seat). seat_after seat stage) is

-- ---- a stage that changes no set, and nothing of the sets of the half

pub record Stands (names : ℕ → Name) (h : HalfState) (stage : HalfStage) (k : HalfState) : Type 0 where
  pub here : (key : ℕ) → k.here key ≡ h.here key
  pub on : (key : ℕ) → k.on key ≡ true → h.on key ≡ true
  pub images : (key : ℕ) → k.images key ≡ h.images key
  pub contents : (key : ℕ) → k.contents key ≡ h.contents key
  pub due : (key seg : ℕ) → k.due key seg ≡ h.due key seg
  pub seat : seat_after (seat_of names h) stage ≡ seat_of names k
  pub plain : is_sending k ≡ false → (key seg : ℕ) → zero_of (k.due key seg) ≡ k.due key seg

-- which it is: of contents and bits it says nothing
pub record IsQuiet (stage : HalfStage) : Type 0 where
  pub contents : (group : Name) (set : PairSet) → contents_after group stage set ≡ set.contents
  pub due : (group : Name) (half : MirrorHalf) (set : PairSet) (seg : ℕ) → due_after group half stage set seg ≡ set.due seg

pub stood : (names : ℕ → Name) (group : Name) (host : MirrorHost) (h : HalfState) (stage : HalfStage) (sent : Sent) (k : HalfState) → IsQuiet stage → IsHalfOf names group host h → Stands names h stage k
    → IsHalfOf names group (record (with_seat host group (seat_after (half_at host group).seat stage) sent) { sets = map (set_after group (half_at host group) stage) host.sets }) k
stood names group host h stage sent k q is s = stepped names group host h stage _ k is (record {
  sets = refl;
  here = s.here;
  on = s.on;
  follows = λ key on o. record {
    image = s.images key ∙ o.image;
    contents = s.contents key ∙ o.contents ∙ sym (q.contents group o.set);
    due = λ seg. s.due key seg ∙ o.due seg ∙ sym (q.due group (half_at host group) o.set seg);
  };
  seat = seated names group host h stage sent is.seat ∙ s.seat;
  plain = s.plain;
})

-- ---- the host has other images

-- where the host itself is another one, its mirrors stand as before
pub record Imaged (host : MirrorHost) (own : HostState) (h k : HalfState) (names : ℕ → Name) : Type 0 where
  pub here : (key : ℕ) → k.here key ≡ h.here key
  pub on : (key : ℕ) → k.on key ≡ true → h.on key ≡ true
  pub images : (key : ℕ) → k.on key ≡ true → (o : IsOneSet names host h key) → k.images key ≡ image_of own o.set.volume
  pub contents : (key : ℕ) → k.on key ≡ true → k.contents key ≡ h.contents key
  pub due : (key seg : ℕ) → k.due key seg ≡ h.due key seg
  pub seat : seat_of names h ≡ seat_of names k
  pub plain : is_sending k ≡ false → (key seg : ℕ) → zero_of (k.due key seg) ≡ k.due key seg

pub imaged : (names : ℕ → Name) (group : Name) (host : MirrorHost) (own : HostState) (h k : HalfState) → IsHalfOf names group host h → Imaged host own h k names → IsHalfOf names group (record host { own = own }) k
imaged names group host own h k is s = record {
  here = λ key. s.here key ∙ is.here key;
  sets = λ key on. let o : IsOneSet names host h key = is.sets key (s.on key on) in record {
    set = o.set;
    found = o.found;
    named = o.named;
    image = s.images key on o;
    contents = s.contents key on ∙ o.contents;
    due = λ seg. s.due key seg ∙ o.due seg;
  };
  seat = is.seat ∙ s.seat;
  plain = s.plain;
}

-- ---- names and numbers

pub eq_other : (a b : ℕ) → nat_eq a b ≡ nat_eq b a
eq_other a b = elim (cases_Bool (nat_eq a b)) [
  | inl is ↦ elim (cases_Bool (nat_eq b a)) [ inl too ↦ is ∙ sym too | inr not ↦ grind arith ]
  | inr off ↦ elim (cases_Bool (nat_eq b a)) [ inl is ↦ grind arith | inr too ↦ off ∙ sym too ]
]

-- a set's name is that of its number
pub named_eq : (names : ℕ → Name) (host : MirrorHost) (h : HalfState) (a key : ℕ) → HaveOwnNames names → (o : IsOneSet names host h key) → bytes_eq (names a) o.set.name ≡ nat_eq a key
named_eq names host h a key apart o = ap (bytes_eq (names a)) o.named ∙ apart.each a key

-- and so are keys by name
pub named_key : (names : ℕ → Name) (host : MirrorHost) (h : HalfState) (keys : Keys) (named : NamedKeys) (key seg : ℕ) → named (names key) seg ≡ keys key seg → (o : IsOneSet names host h key) → named o.set.name seg ≡ keys key seg
named_key names host h keys named key seg same o = ap (λ (name : Name). named name seg) o.named ∙ same
