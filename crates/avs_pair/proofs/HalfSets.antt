-- What the stages by which a set joins, goes, comes back or parts make of a half.
use Rattle.std.proofs.Common.{◌≡◌, ◌⊎◌, inl, inr, ℕ, Bool, true, false, nat_eq, cond, Option, None, Some, is_some, ◌∙◌, refl, sym, ap, arith}
use Rattle.std.specs.Prelude.{not}
use Rattle.std.specs.Option.{option_map, option_map_or}
use Rattle.std.specs.Str.{bytes_eq}
use Rattle.std.proofs.lemmas.Bool.{cases_Bool}
use Rattle.avs_model.specs.Hosts.{Name}
use Rattle.avs_model.specs.HostPlaces.{image_of}
use Rattle.avs_mirrors.specs.Due.{Segments, zero_of}
use Rattle.avs_mirrors.specs.Half.{HalfState, Logging, is_sending, joined, moved, parted, removed, with_set}
use Rattle.avs_mirrors.specs.HalfStages.{after_half_stage, regrouped, seat_after}
use Rattle.avs_mirrors.specs.MirrorHosts.{Ends, Forgets, Joins, MirrorHalf, MirrorHost, PairSet, Parts, Regroups, half_at, has_mirror_set, is_set_in, is_set_named, mirror_set_of}
use Rattle.avs_mirrors.specs.PairOf.{HaveOwnNames, IsHalfOf, IsOneSet, seat_of}
use Rattle.avs_pair.proofs.HalfMoves.{half_forgot, sends_not}
use Rattle.avs_pair.proofs.HalfSteps.{eq_other, seated, stepped}
use Rattle.avs_pair.proofs.Named.{find_among, find_fits, find_map, find_push, find_without, half_beside, half_gone, name_self, same_name}

-- of a set two halves say the same
pub record SameSet (h k : HalfState) (t : ℕ) : Type 0 where
  pub here : k.here t ≡ h.here t
  pub on : k.on t ≡ h.on t
  pub image : k.images t ≡ h.images t
  pub contents : k.contents t ≡ h.contents t
  pub due : (seg : ℕ) → k.due t seg ≡ h.due t seg

-- one set is another one than before, and all others are as they were
pub record OneSet (names : ℕ → Name) (group : Name) (host : MirrorHost) (h : HalfState) (key : ℕ) (new : MirrorHost) (k : HalfState) : Type 0 where
  pub own : new.own ≡ host.own
  pub others : (t : ℕ) → nat_eq t key ≡ false → mirror_set_of new (names t) ≡ mirror_set_of host (names t)
  pub beside : (t : ℕ) → nat_eq t key ≡ false → SameSet h k t
  pub itself : k.here key ≡ is_set_in new group (names key)
  pub set : k.on key ≡ true → IsOneSet names new k key
  pub seat : (half_at new group).seat ≡ seat_of names k
  pub plain : is_sending k ≡ false → (t seg : ℕ) → zero_of (k.due t seg) ≡ k.due t seg

pub one_set : (names : ℕ → Name) (group : Name) (host : MirrorHost) (h : HalfState) (key : ℕ) (new : MirrorHost) (k : HalfState) → IsHalfOf names group host h → OneSet names group host h key new k → IsHalfOf names group new k
one_set names group host h key new k is s = record { here = λ t. here t (cases_Bool (nat_eq t key)); sets = λ t on. sets t on (cases_Bool (nat_eq t key)); seat = s.seat; plain = s.plain }
  where
    here : (t : ℕ) → (nat_eq t key ≡ true) ⊎ (nat_eq t key ≡ false) → k.here t ≡ is_set_in new group (names t)
    here t (inl same) = let e : t ≡ key = grind arith in ap k.here e ∙ s.itself ∙ ap (λ (n : ℕ). is_set_in new group (names n)) (sym e)
    here t (inr off) =
        let b : SameSet h k t = s.beside t off in
        b.here ∙ is.here t ∙ sym (ap (λ (o : Option PairSet). option_map_or (λ (set : PairSet). bytes_eq group set.group) o false) (s.others t off))

    sets : (t : ℕ) → k.on t ≡ true → (nat_eq t key ≡ true) ⊎ (nat_eq t key ≡ false) → IsOneSet names new k t
    sets t on (inl same) =
        let e : t ≡ key = grind arith in
        let o : IsOneSet names new k key = s.set (sym (ap k.on e) ∙ on) in
        record {
          set = o.set;
          found = ap (λ (n : ℕ). mirror_set_of new (names n)) e ∙ o.found;
          named = o.named ∙ sym (ap names e);
          image = ap k.images e ∙ o.image;
          contents = ap k.contents e ∙ o.contents;
          due = λ seg. ap (λ (n : ℕ). k.due n seg) e ∙ o.due seg;
        }
    sets t on (inr off) =
        let b : SameSet h k t = s.beside t off in
        let o : IsOneSet names host h t = is.sets t (sym b.on ∙ on) in
        record {
          set = o.set;
          found = s.others t off ∙ o.found;
          named = o.named;
          image = b.image ∙ o.image ∙ sym (ap (λ own. image_of own o.set.volume) s.own);
          contents = b.contents ∙ o.contents;
          due = λ seg. b.due seg ∙ o.due seg;
        }

module _ (names : ℕ → Name) (group : Name) (host : MirrorHost) (h : HalfState) (key : ℕ) (apart : HaveOwnNames names) (is : IsHalfOf names group host h) where
  -- another number's name is another
  name_other : (t : ℕ) → nat_eq t key ≡ false → (set : PairSet) → is_set_named (names t) set ≡ true → is_set_named (names key) set ≡ false
  name_other t off set found = ap (bytes_eq (names key)) (sym (same_name (names t) set.name found)) ∙ apart.each key t ∙ eq_other key t ∙ off

  self_eq : (n : ℕ) → nat_eq n n ≡ true
  self_eq n = grind arith

  on_key : {X : Type 0} (x y : X) → cond (nat_eq key key) x y ≡ x
  on_key x y = ap (λ (b : Bool). cond b x y) (self_eq key)

  off_key : {X : Type 0} (t : ℕ) (x y : X) → nat_eq t key ≡ false → cond (nat_eq t key) x y ≡ y
  off_key t x y off = ap (λ (b : Bool). cond b x y) off

  due_beside : (t seg : ℕ) (keys : Segments) → nat_eq t key ≡ false → cond (nat_eq t key) (cond (keys seg) (Some 0) None) (h.due t seg) ≡ h.due t seg
  due_beside t seg keys off = ap (λ (b : Bool). cond b (cond (keys seg) (Some 0) None) (h.due t seg)) off

  plain_set : (b c : Bool) (d : Option ℕ) → zero_of d ≡ d → zero_of (cond b (cond c (Some 0) None) d) ≡ cond b (cond c (Some 0) None) d
  plain_set true true d plain = refl
  plain_set true false d plain = refl
  plain_set false c d plain = plain

  -- ---- a new set

  pub half_joined : (keys : Segments) (filled : Bool) (set : PairSet) → is_sending h ≡ false → has_mirror_set host (names key) ≡ false → set.name ≡ names key → set.group ≡ group → h.images key ≡ image_of host.own set.volume → set.contents ≡ filled
      → ((seg : ℕ) → set.due seg ≡ cond (keys seg) (Some 0) None) → IsHalfOf names group (after_half_stage host group (Joins set)) (joined h key keys filled)
  half_joined keys filled set away new name of_group_or image contents due = one_set names group host h key _ (joined h key keys filled) is (record {
    own = refl;
    others = λ t off. find_push (is_set_named (names t)) host.sets set ∙ ap (λ (b : Bool). option_map_or Some (mirror_set_of host (names t)) (cond b (Some set) None)) (ap (bytes_eq (names t)) name ∙ apart.each t key ∙ off) ∙ or_none (mirror_set_of host (names t));
    beside = λ t off. record { here = off_key t true (h.here t) off; on = off_key t true (h.on t) off; image = refl; contents = off_key t filled (h.contents t) off; due = λ seg. due_beside t seg keys off };
    itself = on_key true (h.here key) ∙ sym (name_self group) ∙ sym (ap (bytes_eq group) of_group_or) ∙ sym (ap (λ (o : Option PairSet). option_map_or (λ (s : PairSet). bytes_eq group s.group) o false) there);
    set = λ on. record { set = set; found = there; named = name; image = image; contents = on_key filled (h.contents key) ∙ sym contents; due = λ seg. on_key (cond (keys seg) (Some 0) None) (h.due key seg) ∙ sym (due seg) };
    seat = seated names group host h (Joins set) _ is.seat;
    plain = λ _ t seg. plain_set (nat_eq t key) (keys seg) (h.due t seg) (is.plain away t seg);
  })
    where
      or_none : {X : Type 0} (o : Option X) → option_map_or Some o None ≡ o
      or_none None = refl
      or_none (Some x) = refl

      none_there : (o : Option PairSet) → is_some o ≡ false → o ≡ None
      none_there None is' = refl
      none_there (Some x) is' = absurd (sends_not true refl is')

      there : mirror_set_of (after_half_stage host group (Joins set)) (names key) ≡ Some set
      there =
          find_push (is_set_named (names key)) host.sets set
          ∙ ap (λ (o : Option PairSet). option_map_or Some o (cond (is_set_named (names key) set) (Some set) None)) (none_there (mirror_set_of host (names key)) new)
          ∙ ap (λ (b : Bool). cond b (Some set) None) (ap (bytes_eq (names key)) name ∙ name_self (names key))

  -- ---- a set of another group of the host

  -- whichever group it goes to
  regroups : (to : Name) (t : ℕ) → mirror_set_of (after_half_stage host to (Regroups (names key))) (names t) ≡ option_map (regrouped to (names key)) (mirror_set_of host (names t))
  regroups to t = find_map (is_set_named (names t)) (regrouped to (names key)) (λ set. refl) host.sets

  regroups_others : (to : Name) (t : ℕ) → nat_eq t key ≡ false → mirror_set_of (after_half_stage host to (Regroups (names key))) (names t) ≡ mirror_set_of host (names t)
  regroups_others to t off = regroups to t ∙ by (mirror_set_of host (names t)) refl
    where
      by : (o : Option PairSet) → mirror_set_of host (names t) ≡ o → option_map (regrouped to (names key)) o ≡ o
      by None found = refl
      by (Some set) found = ap (λ (b : Bool). Some (record set { group = cond b to set.group })) (name_other t off set (find_fits (is_set_named (names t)) host.sets set found))

  regroups_itself : (to : Name) (set : PairSet) → mirror_set_of host (names key) ≡ Some set → mirror_set_of (after_half_stage host to (Regroups (names key))) (names key) ≡ Some (record set { group = to })
  regroups_itself to set found =
      regroups to key ∙ ap (option_map (regrouped to (names key))) found
      ∙ ap (λ (b : Bool). Some (record set { group = cond b to set.group })) (find_fits (is_set_named (names key)) host.sets set found)

  in_group_of : (to : Name) (set : PairSet) → mirror_set_of host (names key) ≡ Some set → is_set_in (after_half_stage host to (Regroups (names key))) group (names key) ≡ bytes_eq group to
  in_group_of to set found = ap (λ (o : Option PairSet). option_map_or (λ (s : PairSet). bytes_eq group s.group) o false) (regroups_itself to set found)

  pub half_came : (keys : Segments) (filled : Bool) (set : PairSet) → is_sending h ≡ false → mirror_set_of host (names key) ≡ Some set → set.name ≡ names key → h.images key ≡ image_of host.own set.volume → set.contents ≡ filled
      → ((seg : ℕ) → set.due seg ≡ cond (keys seg) (Some 0) None) → IsHalfOf names group (after_half_stage host group (Regroups (names key))) (joined h key keys filled)
  half_came keys filled set away found name image contents due = one_set names group host h key _ (joined h key keys filled) is (record {
    own = refl;
    others = regroups_others group;
    beside = λ t off. record { here = off_key t true (h.here t) off; on = off_key t true (h.on t) off; image = refl; contents = off_key t filled (h.contents t) off; due = λ seg. due_beside t seg keys off };
    itself = on_key true (h.here key) ∙ sym (name_self group) ∙ sym (in_group_of group set found);
    set = λ on. record { set = record set { group = group }; found = regroups_itself group set found; named = name; image = image; contents = on_key filled (h.contents key) ∙ sym contents; due = λ seg. on_key (cond (keys seg) (Some 0) None) (h.due key seg) ∙ sym (due seg) };
    seat = seated names group host h (Regroups (names key)) _ is.seat;
    plain = λ _ t seg. plain_set (nat_eq t key) (keys seg) (h.due t seg) (is.plain away t seg);
  })

  pub half_returned : h.on key ≡ true → IsHalfOf names group (after_half_stage host group (Regroups (names key))) (moved h key true)
  half_returned on = let o : IsOneSet names host h key = is.sets key on in one_set names group host h key _ (moved h key true) is (record {
    own = refl;
    others = regroups_others group;
    beside = λ t off. record { here = off_key t true (h.here t) off; on = refl; image = refl; contents = refl; due = λ seg. refl };
    itself = on_key true (h.here key) ∙ sym (name_self group) ∙ sym (in_group_of group o.set o.found);
    set = λ _. record { set = record o.set { group = group }; found = regroups_itself group o.set o.found; named = o.named; image = o.image; contents = o.contents; due = o.due };
    seat = seated names group host h (Regroups (names key)) _ is.seat;
    plain = is.plain;
  })

  -- it goes to a group: this half has it no longer here, and is asked what it says of it else
  abbrev pub went : HalfState → HalfState
  went k = record h { on = k.on; here = with_set h.here key false; due = k.due; kept = k.kept }

  -- what is left of it: it stays a set of the half, or does not
  pub record Leaves (k : HalfState) : Type 0 where
    pub beside : (t : ℕ) → nat_eq t key ≡ false → (k.on t ≡ h.on t) × ((seg : ℕ) → k.due t seg ≡ h.due t seg)
    pub itself : k.on key ≡ true → (h.on key ≡ true) × ((seg : ℕ) → k.due key seg ≡ h.due key seg)
    pub plain : (t seg : ℕ) → zero_of (k.due t seg) ≡ k.due t seg

  pub gone_to : (to : Name) (k : HalfState) → bytes_eq group to ≡ false → has_mirror_set host (names key) ≡ true → Leaves k → IsHalfOf names group (after_half_stage host to (Regroups (names key))) (went k)
  gone_to to k other there leaves = one_set names group host h key _ (went k) is (record {
    own = refl;
    others = regroups_others to;
    beside = λ t off. record { here = off_key t false (h.here t) off; on = (leaves.beside t off).0; image = refl; contents = refl; due = (leaves.beside t off).1 };
    itself = on_key false (h.here key) ∙ sym (by (mirror_set_of host (names key)) refl there);
    set = λ on.
        let l = leaves.itself on in
        let o : IsOneSet names host h key = is.sets key l.0 in
        record { set = record o.set { group = to }; found = regroups_itself to o.set o.found; named = o.named; image = o.image; contents = o.contents; due = λ seg. l.1 seg ∙ o.due seg };
    seat = ap (λ (half : MirrorHalf). half.seat) (half_beside host to group (seat_after (half_at host to).seat (Regroups (names key))) (half_at host to).sent other) ∙ is.seat;
    plain = λ _ t seg. leaves.plain t seg;
  })
    where
      by : (o : Option PairSet) → mirror_set_of host (names key) ≡ o → is_some o ≡ true → is_set_in (after_half_stage host to (Regroups (names key))) group (names key) ≡ false
      by None found some = absurd (sends_not false some refl)
      by (Some set) found some = in_group_of to set found ∙ other

  -- it goes, and is the half's still until the other half follows; or it is not
  stays_on : is_sending h ≡ false → Leaves h
  stays_on away = record { beside = λ t off. (refl, λ seg. refl); itself = λ on. (on, λ seg. refl); plain = is.plain away }

  off_set : (t seg : ℕ) → zero_of (h.due t seg) ≡ h.due t seg → zero_of (cond (nat_eq t key) None (h.due t seg)) ≡ cond (nat_eq t key) None (h.due t seg)
  off_set t seg plain = by (nat_eq t key)
    where
      by : (b : Bool) → zero_of (cond b None (h.due t seg)) ≡ cond b None (h.due t seg)
      by true = refl
      by false = plain

  goes_off : is_sending h ≡ false → Leaves (parted h key)
  goes_off away = record {
    beside = λ t off. (off_key t false (h.on t) off, λ seg. off_key t None (h.due t seg) off);
    itself = λ on. absurd (sends_not true refl (sym on ∙ on_key false (h.on key)));
    plain = λ t seg. off_set t seg (is.plain away t seg);
  }

-- a set goes to another group, and then what the half gave and knows is forgotten
pub half_gone_to : (names : ℕ → Name) (group : Name) (host : MirrorHost) (h : HalfState) (key : ℕ) (apart : HaveOwnNames names) (is : IsHalfOf names group host h) (to : Name) → is_sending h ≡ false → bytes_eq group to ≡ false → has_mirror_set host (names key) ≡ true
    → IsHalfOf names group (after_half_stage (after_half_stage host to (Regroups (names key))) group Forgets) (moved h key false)
half_gone_to names group host h key apart is to away other there =
    half_forgot names group (after_half_stage host to (Regroups (names key))) (went names group host h key apart is h) apart (gone_to names group host h key apart is to h other there (stays_on names group host h key apart is away))

pub half_gone_off : (names : ℕ → Name) (group : Name) (host : MirrorHost) (h : HalfState) (key : ℕ) (apart : HaveOwnNames names) (is : IsHalfOf names group host h) (to : Name) → is_sending h ≡ false → bytes_eq group to ≡ false → has_mirror_set host (names key) ≡ true
    → IsHalfOf names group (after_half_stage (after_half_stage host to (Regroups (names key))) group Forgets) (parted h key)
half_gone_off names group host h key apart is to away other there =
    half_forgot names group (after_half_stage host to (Regroups (names key))) (went names group host h key apart is (parted h key)) apart (gone_to names group host h key apart is to (parted h key) other there (goes_off names group host h key apart is away))

module _ (names : ℕ → Name) (group : Name) (host : MirrorHost) (h : HalfState) (key : ℕ) (apart : HaveOwnNames names) (is : IsHalfOf names group host h) where
  -- ---- a set is disabled

  none_of : (new : MirrorHost) → mirror_set_of new (names key) ≡ None → is_set_in new group (names key) ≡ false
  none_of new none = ap (λ (o : Option PairSet). option_map_or (λ (s : PairSet). bytes_eq group s.group) o false) none

  pub half_parted : is_sending h ≡ false → IsHalfOf names group (after_half_stage host group (Parts (names key))) (parted h key)
  half_parted away = one_set names group host h key _ (parted h key) is (record {
    own = refl;
    others = λ t off. find_among (is_set_named (names t)) (λ set. not (is_set_named (names key) set)) (λ set found. ap not (name_other names group host h key apart is t off set found)) host.sets;
    beside = λ t off. record {
      here = off_key names group host h key apart is t false (h.here t) off;
      on = off_key names group host h key apart is t false (h.on t) off;
      image = refl;
      contents = refl;
      due = λ seg. off_key names group host h key apart is t None (h.due t seg) off;
    };
    itself = on_key names group host h key apart is false (h.here key) ∙ sym (none_of (after_half_stage host group (Parts (names key))) (find_without (is_set_named (names key)) host.sets));
    set = λ on. absurd (sends_not true refl (sym on ∙ on_key names group host h key apart is false (h.on key)));
    seat = seated names group host h (Parts (names key)) _ is.seat;
    plain = λ _ t seg. off_set names group host h key apart is t seg (is.plain away t seg);
  })

  -- the other half has gone, where this one has gone before: nothing is done here
  stayed : HalfState
  stayed = record h { on = (parted h key).on; here = (parted h key).here; due = (parted h key).due; kept = (parted h key).kept }

  half_stayed_as : is_sending h ≡ false → h.here key ≡ false → IsHalfOf names group host stayed
  unfolding stayed
  half_stayed_as away gone = one_set names group host h key host stayed is (record {
    own = refl;
    others = λ t off. refl;
    beside = λ t off. record {
      here = off_key names group host h key apart is t false (h.here t) off;
      on = off_key names group host h key apart is t false (h.on t) off;
      image = refl;
      contents = refl;
      due = λ seg. off_key names group host h key apart is t None (h.due t seg) off;
    };
    itself = on_key names group host h key apart is false (h.here key) ∙ sym gone ∙ is.here key;
    set = λ on. absurd (sends_not true refl (sym on ∙ on_key names group host h key apart is false (h.on key)));
    seat = is.seat;
    plain = λ _ t seg. off_set names group host h key apart is t seg (is.plain away t seg);
  })

  pub half_stayed : is_sending h ≡ false → h.here key ≡ false → IsHalfOf names group (after_half_stage host group Forgets) (parted h key)
  unfolding stayed
  half_stayed away gone = half_forgot names group host stayed apart (half_stayed_as away gone)

-- ---- a group is gone

pub half_ended : (names : ℕ → Name) (group : Name) (host : MirrorHost) (h : HalfState) → IsHalfOf names group host h → h.state ≡ Logging → is_sending h ≡ false → IsHalfOf names group (after_half_stage host group Ends) (removed h)
half_ended names group host h is away none = stepped names group host h Ends _ (removed h) is (record {
  sets = refl;
  here = λ key. refl;
  on = λ key on. on;
  follows = λ key on o. record { image = o.image; contents = o.contents; due = o.due };
  seat = ap (λ (half : MirrorHalf). half.seat) (half_gone host group) ∙ ap (λ state. record (seat_of names (removed h)) { state = state }) (sym away);
  plain = λ _ key seg. is.plain none key seg;
})
