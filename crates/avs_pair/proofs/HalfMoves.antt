-- What each stage of a half makes of it, as its move says.
use Rattle.std.proofs.Common.{◌≡◌, ◌⊎◌, inl, inr, ℕ, suc, ◌+◌, ◌*◌, ◌/◌, max, Bool, true, false, ◌&&◌, nat_eq, cond, List, [], ◌∷◌, map, length, drop, Option, None, Some, is_some, ◌∙◌, refl, sym, ap, arith, slice_get, subst}
use Rattle.std.specs.Prelude.{◌==◌, ◌||◌, not}
use Rattle.std.specs.Str.{bytes_eq}
use Rattle.std.proofs.lemmas.Bool.{cases_Bool}
use Rattle.avs_seg.specs.Image.{Image, is_inside, put}
use Rattle.avs_seg.specs.Segment.{first_segment, touch_count}
use Rattle.avs_seg.specs.Staged.{run}
use Rattle.avs_seg.proofs.Puts.{put_none}
use Rattle.avs_model.specs.Hosts.{HostStage, HostState, Name}
use Rattle.avs_model.specs.HostStages.{in_host}
use Rattle.avs_model.specs.HostPlaces.{image_of}
use Rattle.avs_model.specs.declared.entry.Entry.{Entry}
use Rattle.avs_mirrors.specs.Due.{Due, Keys, has, nothing_due, placed_one, zero_of}
use Rattle.avs_mirrors.specs.Entries.{a_mark, after_entry, copy_of, greatest, is_mark, touches, written}
use Rattle.avs_mirrors.specs.Half.{HalfState, Message, applied_to, asked, begun, drawn, forgotten, is_receiving, is_sending, left_receiver, left_sender, queued, rejoined, resumed, turned, weighed, with_bits, with_change, with_copy, with_freed, with_held, with_mark, with_place, with_reached, with_taken, without_place}
use Rattle.avs_mirrors.specs.HalfStages.{after_half_stage, begun_one, contents_after, due_after, freed_one, greatest_named, noted_one, touches_named, weighed_one, with_own, without_held}
use Rattle.avs_mirrors.specs.MirrorHosts.{Applies, Asks, Begins, Draws, Fills, Forgets, Frees, GoesOn, HalfStage, Holds, Knows, Leaves, LeavesReceiver, MirrorHalf, MirrorHost, PairSet, NamedEntry, NamedKeys, NamedMessage, Notes, Places, Queues, Rejoins, Seat, Takes, Turns, Weighs, half_at, mirror_set_of}
use Rattle.avs_mirrors.specs.MoveStages.{MakesImages, SameKeys, image_changed_to, entry_image}
use Rattle.avs_mirrors.specs.PairOf.{HaveOwnNames, IsHalfOf, IsOneSet, named_entry, named_message, seat_of}
use Rattle.avs_pair.proofs.Dues.{mark_apart}
use Rattle.avs_pair.proofs.HalfSteps.{IsQuiet, eq_other, imaged, in_here, named_eq, named_key, seated, stepped, stood}

-- a half that sends is not one that does not
pub sends_not : (b : Bool) → b ≡ true → b ≡ false → ⊥
sends_not b is off = wrong (sym is ∙ off)
  where
    wrong : true ≡ false → ⊥
    wrong e = absurd (cc)

-- an entry is the mark, which has no blocks, or is of a set
abbrev pub IsPlain : Entry → Type 0
IsPlain e = (e ≡ a_mark) ⊎ (is_mark e.kind ≡ false)

nothing_put : (b : Bool) (i : Image) → cond b (put i 0 []) i ≡ i
nothing_put true i = put_none i 0 [] refl
nothing_put false i = refl

none_touched : (b c : Bool) → c ≡ false → (b && c) ≡ false
none_touched true c none = none
none_touched false c none = refl

module _ (names : ℕ → Name) (group : Name) (host : MirrorHost) (h : HalfState) (apart : HaveOwnNames names) (is : IsHalfOf names group host h) where
  -- ---- bits

  pub noted_plain : (b : Bool) (o : Option ℕ) → zero_of o ≡ o → zero_of (noted_one b o) ≡ noted_one b o
  noted_plain true None plain = refl
  noted_plain false None plain = refl
  noted_plain b (Some place) plain = plain

  pub half_noted : (keys : Keys) (named : NamedKeys) → SameKeys names h.on keys named → IsHalfOf names group (after_half_stage host group (Notes named)) (with_bits h keys)
  half_noted keys named same = stepped names group host h (Notes named) _ (with_bits h keys) is (record {
    sets = refl;
    here = λ key. refl;
    on = λ key on. on;
    follows = λ key on o. record {
      image = o.image;
      contents = o.contents;
      due = λ seg.
          ap (λ (d : Option ℕ). noted_one (keys key seg) d) (o.due seg)
          ∙ sym (ap (λ (b : Bool). noted_one b (o.set.due seg)) (named_key names host h keys named key seg (same.each key seg on) o));
    };
    seat = seated names group host h (Notes named) (half_at host group).sent is.seat;
    plain = λ away key seg. noted_plain (keys key seg) (h.due key seg) (is.plain away key seg);
  })

  freed_plain : (b : Bool) (o : Option ℕ) → zero_of o ≡ o → zero_of (freed_one b o) ≡ freed_one b o
  freed_plain true o plain = refl
  freed_plain false o plain = plain

  pub half_freed : (keys : Keys) (named : NamedKeys) → SameKeys names h.on keys named → IsHalfOf names group (after_half_stage host group (Frees named)) (with_freed h keys)
  half_freed keys named same = stepped names group host h (Frees named) _ (with_freed h keys) is (record {
    sets = refl;
    here = λ key. refl;
    on = λ key on. on;
    follows = λ key on o. record {
      image = o.image;
      contents = o.contents;
      due = λ seg.
          ap (λ (d : Option ℕ). freed_one (keys key seg) d) (o.due seg)
          ∙ sym (ap (λ (b : Bool). freed_one b (o.set.due seg)) (named_key names host h keys named key seg (same.each key seg on) o));
    };
    seat = seated names group host h (Frees named) (half_at host group).sent is.seat;
    plain = λ away key seg. freed_plain (keys key seg) (h.due key seg) (is.plain away key seg);
  })

  -- ---- another image

  -- the set that a host looks up by the set's own name
  found_self : (key : ℕ) (o : IsOneSet names host h key) → mirror_set_of host o.set.name ≡ Some o.set
  found_self key o = ap (λ (name : Name). mirror_set_of host name) o.named ∙ o.found

  -- a host that has these images
  abbrev pub HasImages : HostState → (PairSet → Image) → Type 0
  HasImages own image = (set : PairSet) → mirror_set_of host set.name ≡ Some set → image_of own set.volume ≡ image set

  image_changed : (set key : ℕ) (image : Image) (own : HostState) → HasImages own (image_changed_to host (names set) image) → (o : IsOneSet names host h key) → (with_change h set image).images key ≡ image_of own o.set.volume
  image_changed set key image own has o =
      ap (λ (i : Image). cond (nat_eq key set) image i) o.image
      ∙ ap (λ (b : Bool). cond b image (image_of host.own o.set.volume)) (eq_other key set ∙ sym (named_eq names host h set key apart o))
      ∙ sym (has o.set (found_self key o))

  contents_there : (set key : ℕ) → h.contents set ≡ true → (with_change h set []).contents key ≡ h.contents key
  contents_there set key filled = elim (cases_Bool (nat_eq key set)) [
    | inl same ↦
        let k : key ≡ set = grind arith in
        ap (λ (b : Bool). cond b true (h.contents key)) same ∙ sym (ap (λ (n : ℕ). h.contents n) k ∙ filled)
    | inr off ↦ ap (λ (b : Bool). cond b true (h.contents key)) off
  ]

  pub half_changed : (set : ℕ) (image : Image) (own : HostState) → h.contents set ≡ true → HasImages own (image_changed_to host (names set) image) → IsHalfOf names group (record host { own = own }) (with_change h set image)
  half_changed set image own filled has = imaged names group host own h (with_change h set image) is (record {
    here = λ key. refl;
    on = λ key on. on;
    images = λ key on o. image_changed set key image own has o;
    contents = λ key on. contents_there set key filled;
    due = λ key seg. refl;
    seat = refl;
    plain = is.plain;
  })

  pub half_written : (set : ℕ) (image : Image) (own : List HostStage) → h.contents set ≡ true → MakesImages host own (image_changed_to host (names set) image) → IsHalfOf names group (with_own host own) (with_change h set image)
  half_written set image own filled makes = half_changed set image (run in_host host.own own) filled makes.each

  or_cond : (b c : Bool) → cond b true c ≡ (b || c)
  or_cond true c = refl
  or_cond false c = refl

  pub half_restored : (set : ℕ) (image : Image) (own : List HostStage) → MakesImages host own (image_changed_to host (names set) image) → IsHalfOf names group (after_half_stage (with_own host own) group (Fills (names set))) (with_change h set image)
  half_restored set image own makes = stepped names group host h (Fills (names set)) _ (with_change h set image) is (record {
    sets = refl;
    here = λ key. refl;
    on = λ key on. on;
    follows = λ key on o. record {
      image = image_changed set key image (run in_host host.own own) makes.each o;
      contents =
          or_cond (nat_eq key set) (h.contents key)
          ∙ ap (λ (c : Bool). nat_eq key set || c) o.contents
          ∙ ap (λ (b : Bool). b || o.set.contents) (eq_other key set ∙ sym (named_eq names host h set key apart o));
      due = o.due;
    };
    seat = seated names group (with_own host own) h (Fills (names set)) (half_at host group).sent is.seat;
    plain = is.plain;
  })

  other_key : (set key : ℕ) → h.on set ≡ false → h.on key ≡ true → nat_eq key set ≡ false
  other_key set key off on = elim (cases_Bool (nat_eq key set)) [
    | inl same ↦
        let k : key ≡ set = grind arith in
        absurd (sends_not (h.on key) on (ap (λ (n : ℕ). h.on n) k ∙ off))
    | inr apart' ↦ apart'
  ]

  pub half_found : (set : ℕ) (image : Image) → h.on set ≡ false → IsHalfOf names group host (with_change h set image)
  half_found set image off = imaged names group host host.own h (with_change h set image) is (record {
    here = λ key. refl;
    on = λ key on. on;
    images = λ key on o. ap (λ (b : Bool). cond b image (h.images key)) (other_key set key off on) ∙ o.image;
    contents = λ key on. ap (λ (b : Bool). cond b true (h.contents key)) (other_key set key off on);
    due = λ key seg. refl;
    seat = refl;
    plain = is.plain;
  })

  -- ---- places

  entry_eq : (e : Entry) (key : ℕ) → is_mark e.kind ≡ false → (o : IsOneSet names host h key) → bytes_eq (named_entry names e).set o.set.name ≡ nat_eq e.set key
  entry_eq e key off o = ap (λ (b : Bool). bytes_eq (cond b [] (names e.set)) o.set.name) off ∙ named_eq names host h e.set key apart o

  -- the mark puts nothing
  mark_put : (key : ℕ) (own : List HostStage) → MakesImages host own (entry_image host (named_entry names a_mark)) → (o : IsOneSet names host h key) → after_entry h.images a_mark key ≡ image_of (run in_host host.own own) o.set.volume
  unfolding after_entry
  mark_put key own makes o =
      nothing_put (nat_eq key 0) (h.images key) ∙ o.image ∙ sym (nothing_put (bytes_eq [] o.set.name) (image_of host.own o.set.volume)) ∙ sym (makes.each o.set (found_self key o))

  image_put : (e : Entry) (key : ℕ) (own : List HostStage) → IsPlain e → MakesImages host own (entry_image host (named_entry names e)) → (o : IsOneSet names host h key) → after_entry h.images e key ≡ image_of (run in_host host.own own) o.set.volume
  unfolding after_entry
  image_put e key own (inl mark) makes o =
      subst (λ (f : Entry). after_entry h.images f key ≡ image_of (run in_host host.own own) o.set.volume) (sym mark) (mark_put key own (subst (λ (f : Entry). MakesImages host own (entry_image host (named_entry names f))) mark makes) o)
  image_put e key own (inr off) makes o =
      ap (λ (i : Image). cond (nat_eq key e.set) (put i e.at e.bytes) i) o.image
      ∙ ap (λ (b : Bool). cond b (put (image_of host.own o.set.volume) e.at e.bytes) (image_of host.own o.set.volume)) (eq_other key e.set ∙ sym (entry_eq e key off o))
      ∙ sym (makes.each o.set (found_self key o))

  mark_touches : (key seg : ℕ) → (o : IsOneSet names host h key) → touches a_mark key seg ≡ touches_named (named_entry names a_mark) o.set.name seg
  unfolding touches
  mark_touches key seg o = mark_apart key seg ∙ sym (none_touched (bytes_eq [] o.set.name) (is_inside (first_segment 0) (touch_count 0 0) seg) (mark_apart 0 seg))

  touches_same : (e : Entry) (key seg : ℕ) → IsPlain e → (o : IsOneSet names host h key) → touches e key seg ≡ touches_named (named_entry names e) o.set.name seg
  unfolding touches
  touches_same e key seg (inl mark) o = subst (λ (f : Entry). touches f key seg ≡ touches_named (named_entry names f) o.set.name seg) (sym mark) (mark_touches key seg o)
  touches_same e key seg (inr off) o =
      sym (ap (λ (b : Bool). b && is_inside (first_segment e.at) (touch_count e.at (length e.bytes)) seg) (entry_eq e key off o))

  place_there : (place : ℕ) → h.last + 1 ≡ place → (half_at host group).seat.last + 1 ≡ place
  place_there place next = ap (λ (seat : Seat). seat.last + 1) is.seat ∙ next

  pub half_placed : (set at : ℕ) (bytes : Image) (own : List HostStage) (place : ℕ) (copying : Bool) → is_sending h ≡ true → h.last + 1 ≡ place → ((half_at host group).sent.mark == 0) ≡ copying
      → MakesImages host own (entry_image host (named_entry names (written set at bytes)))
      → IsHalfOf names group (after_half_stage (with_own host own) group (Places (named_entry names (written set at bytes)))) (with_place h (written set at bytes) place copying)
  unfolding touches
  half_placed set at bytes own place copying sends next mark makes = stepped names group host h (Places ne) _ (with_place h e place copying) is (record {
    sets = refl;
    here = λ key. refl;
    on = λ key on. on;
    follows = λ key on o. record {
      image = image_put e key own (inr refl) makes o;
      contents = o.contents;
      due = λ seg.
          ap (λ (d : Option ℕ). cond (touches e key seg) (placed_one copying d place) d) (o.due seg)
          ∙ ap (λ (b : Bool). cond b (placed_one copying (o.set.due seg) place) (o.set.due seg)) (touches_same e key seg (inr refl) o)
          ∙ sym (ap (λ (b : Bool). cond (touches_named ne o.set.name seg) (placed_one b (o.set.due seg) place) (o.set.due seg)) mark)
          ∙ sym (ap (λ (n : ℕ). cond (touches_named ne o.set.name seg) (placed_one ((half_at host group).sent.mark == 0) (o.set.due seg) n) (o.set.due seg)) (place_there place next));
    };
    seat = seated names group (with_own host own) h (Places ne) _ is.seat ∙ ap (λ (n : ℕ). record (seat_of names h) { last = n }) next;
    plain = λ away key seg. absurd (sends_not (is_sending h) sends away);
  })
    where
      e : Entry
      e = written set at bytes

      ne : NamedEntry
      ne = named_entry names e

  first_of : (seg : ℕ) → 64 * seg / 64 ≡ seg
  first_of seg = omega arith

  pub half_copied : (set seg place : ℕ) → is_sending h ≡ true → h.last + 1 ≡ place
      → IsHalfOf names group (after_half_stage host group (Places (named_entry names (copy_of h.images set seg)))) (with_copy h set seg place)
  half_copied set seg place sends next = stepped names group host h (Places (named_entry names (copy_of h.images set seg))) _ (with_copy h set seg place) is (record {
    sets = refl;
    here = λ key. refl;
    on = λ key on. on;
    follows = λ key on o. record {
      image = o.image;
      contents = o.contents;
      due = λ g.
          ap (λ (d : Option ℕ). cond (nat_eq key set && nat_eq g seg) (Some place) d) (o.due g)
          ∙ ap (λ (b : Bool). cond (b && nat_eq g seg) (Some place) (o.set.due g)) (eq_other key set ∙ sym (named_eq names host h set key apart o))
          ∙ sym (ap (λ (n : ℕ). cond (bytes_eq (names set) o.set.name && nat_eq g n) (Some place) (o.set.due g)) (first_of seg))
          ∙ sym (ap (λ (n : ℕ). cond (bytes_eq (names set) o.set.name && nat_eq g (64 * seg / 64)) (Some n) (o.set.due g)) (place_there place next));
    };
    seat = seated names group host h (Places (named_entry names (copy_of h.images set seg))) _ is.seat ∙ ap (λ (n : ℕ). record (seat_of names h) { last = n }) next;
    plain = λ away key g. absurd (sends_not (is_sending h) sends away);
  })

  pub half_marked : (place : ℕ) → is_sending h ≡ true → h.last + 1 ≡ place → IsHalfOf names group (after_half_stage host group (Places (named_entry names a_mark))) (with_mark h place)
  half_marked place sends next = stepped names group host h (Places (named_entry names a_mark)) _ (with_mark h place) is (record {
    sets = refl;
    here = λ key. refl;
    on = λ key on. on;
    follows = λ key on o. record { image = o.image; contents = o.contents; due = o.due };
    seat = seated names group host h (Places (named_entry names a_mark)) _ is.seat ∙ ap (λ (n : ℕ). record (seat_of names h) { last = n }) next;
    plain = λ away key g. absurd (sends_not (is_sending h) sends away);
  })

  -- ---- where it stands alone changes

  quiet : (stage : HalfStage) → ((group' : Name) (set : PairSet) → contents_after group' stage set ≡ set.contents) → ((group' : Name) (half : MirrorHalf) (set : PairSet) (seg : ℕ) → due_after group' half stage set seg ≡ set.due seg) → IsQuiet stage
  quiet stage contents due = record { contents = contents; due = due }

  pub half_taken : (place : ℕ) → IsHalfOf names group (after_half_stage host group (Takes place)) (with_taken h place)
  half_taken place = stood names group host h (Takes place) _ (with_taken h place) (quiet (Takes place) (λ g s. refl) (λ g f s n. refl)) is (record {
    here = λ key. refl;
    on = λ key on. on;
    images = λ key. refl;
    contents = λ key. refl;
    due = λ key seg. refl;
    seat = refl;
    plain = is.plain;
  })

  pub half_known : (upto : ℕ) → IsHalfOf names group (after_half_stage host group (Knows upto)) (with_reached h upto)
  half_known upto = stood names group host h (Knows upto) _ (with_reached h upto) (quiet (Knows upto) (λ g s. refl) (λ g f s n. refl)) is (record {
    here = λ key. refl;
    on = λ key on. on;
    images = λ key. refl;
    contents = λ key. refl;
    due = λ key seg. refl;
    seat = refl;
    plain = is.plain;
  })

  pub half_turned : is_sending h ≡ true → IsHalfOf names group (after_half_stage host group Turns) (turned h)
  half_turned sends = stood names group host h Turns _ (turned h) (quiet Turns (λ g s. refl) (λ g f s n. refl)) is (record {
    here = λ key. refl;
    on = λ key on. on;
    images = λ key. refl;
    contents = λ key. refl;
    due = λ key seg. refl;
    seat = refl;
    plain = λ away key seg. absurd (sends_not (is_sending (turned h)) (stays_sender h sends) away);
  })
    where
      stays_sender : (x : HalfState) → is_sending x ≡ true → is_sending (turned x) ≡ true
      stays_sender x on = grind arith

  pub half_goes_on : is_sending h ≡ true → IsHalfOf names group (after_half_stage host group GoesOn) (resumed h)
  half_goes_on sends = stood names group host h GoesOn _ (resumed h) (quiet GoesOn (λ g s. refl) (λ g f s n. refl)) is (record {
    here = λ key. refl;
    on = λ key on. on;
    images = λ key. refl;
    contents = λ key. refl;
    due = λ key seg. refl;
    seat = refl;
    plain = λ away key seg. absurd (sends_not (is_sending (resumed h)) (stays_sender h sends) away);
  })
    where
      stays_sender : (x : HalfState) → is_sending x ≡ true → is_sending (resumed x) ≡ true
      stays_sender x on = grind arith

  pub half_queued : is_sending h ≡ true → IsHalfOf names group (after_half_stage host group Queues) (queued h)
  half_queued sends = stood names group host h Queues _ (queued h) (quiet Queues (λ g s. refl) (λ g f s n. refl)) is (record {
    here = λ key. refl;
    on = λ key on. on;
    images = λ key. refl;
    contents = λ key. refl;
    due = λ key seg. refl;
    seat = refl;
    plain = λ away key seg. absurd (sends_not (is_sending (queued h)) (stays_sender h sends) away);
  })
    where
      stays_sender : (x : HalfState) → is_sending x ≡ true → is_sending (queued x) ≡ true
      stays_sender x on = grind arith

  pub half_forgot : IsHalfOf names group (after_half_stage host group Forgets) (forgotten h)
  half_forgot = stood names group host h Forgets _ (forgotten h) (quiet Forgets (λ g s. refl) (λ g f s n. refl)) is (record {
    here = λ key. refl;
    on = λ key on. on;
    images = λ key. refl;
    contents = λ key. refl;
    due = λ key seg. refl;
    seat = refl;
    plain = is.plain;
  })

  pub half_left_receiver : is_sending h ≡ false → IsHalfOf names group (after_half_stage host group LeavesReceiver) (left_receiver h)
  half_left_receiver away = stood names group host h LeavesReceiver _ (left_receiver h) (quiet LeavesReceiver (λ g s. refl) (λ g f s n. refl)) is (record {
    here = λ key. refl;
    on = λ key on. on;
    images = λ key. refl;
    contents = λ key. refl;
    due = λ key seg. refl;
    seat = refl;
    plain = λ _ key seg. is.plain away key seg;
  })

  pub half_drew : (number : ℕ) → is_sending h ≡ false → IsHalfOf names group (after_half_stage host group (Draws number)) (drawn h number)
  half_drew number away = stood names group host h (Draws number) _ (drawn h number) (quiet (Draws number) (λ g s. refl) (λ g f s n. refl)) is (record {
    here = λ key. refl;
    on = λ key on. on;
    images = λ key. refl;
    contents = λ key. refl;
    due = λ key seg. refl;
    seat = refl;
    plain = λ _ key seg. is.plain away key seg;
  })

  pub half_rejoined : is_sending h ≡ false → ((key : ℕ) → h.here key ≡ true → h.on key ≡ true) → IsHalfOf names group (after_half_stage host group Rejoins) (rejoined h)
  half_rejoined away within = stood names group host h Rejoins _ (rejoined h) (quiet Rejoins (λ g s. refl) (λ g f s n. refl)) is (record {
    here = λ key. refl;
    on = within;
    images = λ key. refl;
    contents = λ key. refl;
    due = λ key seg. refl;
    seat = refl;
    plain = λ _ key seg. is.plain away key seg;
  })

  pub half_held : (m : Message) → IsHalfOf names group (after_half_stage host group (Holds (named_message names m))) (with_held h m)
  half_held m = stood names group host h (Holds (named_message names m)) _ (with_held h m) (quiet (Holds (named_message names m)) (λ g s. refl) (λ g f s n. refl)) is (record {
    here = λ key. refl;
    on = λ key on. on;
    images = λ key. refl;
    contents = λ key. refl;
    due = λ key seg. refl;
    seat = refl;
    plain = is.plain;
  })

  -- ---- all sets of the group

  inside : {X : Type 0} (b c : Bool) (x y z : X) → b ≡ c → (c ≡ true → z ≡ x) → (c ≡ false → z ≡ y) → z ≡ cond b x y
  inside b true x y z same on off = on refl ∙ sym (ap (λ (d : Bool). cond d x y) same)
  inside b false x y z same on off = off refl ∙ sym (ap (λ (d : Bool). cond d x y) same)

  zeros_plain : (o : Option ℕ) → zero_of (zero_of o) ≡ zero_of o
  zeros_plain None = refl
  zeros_plain (Some place) = refl

  -- a sender leaves: a set that it has no longer here is in no session
  pub half_left : ((key : ℕ) → h.on key ≡ true → h.here key ≡ false → is_sending h ≡ false) → IsHalfOf names group (after_half_stage host group Leaves) (left_sender h)
  half_left gone = stepped names group host h Leaves _ (left_sender h) is (record {
    sets = refl;
    here = λ key. refl;
    on = λ key on. on;
    follows = λ key on o. record {
      image = o.image;
      contents = o.contents;
      due = λ seg. inside (bytes_eq group o.set.group) (h.here key) (zero_of (o.set.due seg)) (o.set.due seg) (zero_of (h.due key seg)) (in_here names group host h key is o)
          (λ here. ap zero_of (o.due seg))
          (λ away. is.plain (gone key on away) key seg ∙ o.due seg);
    };
    seat = seated names group host h Leaves _ is.seat;
    plain = λ _ key seg. zeros_plain (h.due key seg);
  })

  pub half_asked : (number : ℕ) → ((key : ℕ) → h.here key ≡ true → h.on key ≡ true) → IsHalfOf names group (after_half_stage host group (Asks number)) (asked h number)
  half_asked number within = stepped names group host h (Asks number) _ (asked h number) is (record {
    sets = refl;
    here = λ key. refl;
    on = within;
    follows = λ key here o. record {
      image = o.image;
      contents = ap (λ (c : Bool). not (h.here key) && c) o.contents ∙ sym (ap (λ (b : Bool). not b && o.set.contents) (in_here names group host h key is o));
      due = λ seg. ap zero_of (o.due seg) ∙ sym (ap (λ (b : Bool). cond b (zero_of (o.set.due seg)) (o.set.due seg)) (in_here names group host h key is o ∙ here));
    };
    seat = seated names group host h (Asks number) _ is.seat;
    plain = λ _ key seg. zeros_plain (h.due key seg);
  })

  begun_same : (o theirs : Option ℕ) → cond (is_some o) (Some 0) (zero_of theirs) ≡ begun_one (is_some theirs) o
  begun_same (Some k) theirs = refl
  begun_same None (Some j) = refl
  begun_same None None = refl

  pub half_begun : (b : HalfState) (most : ℕ) (bits : NamedKeys) → SameKeys names b.here (has b.due) bits → ((key : ℕ) → h.here key ≡ true → b.here key ≡ true) → is_sending (begun h b) ≡ true → ((key : ℕ) → h.here key ≡ true → h.on key ≡ true)
      → IsHalfOf names group (after_half_stage host group (Begins most bits)) (begun h b)
  half_begun b most bits same there sends within = stepped names group host h (Begins most bits) _ (begun h b) is (record {
    sets = refl;
    here = λ key. refl;
    on = within;
    follows = λ key here o. record {
      image = o.image;
      contents = o.contents;
      due = λ seg.
          begun_same (h.due key seg) (b.due key seg)
          ∙ ap (λ (d : Option ℕ). begun_one (has b.due key seg) d) (o.due seg)
          ∙ sym (ap (λ (c : Bool). begun_one c (o.set.due seg)) (named_key names host h (has b.due) bits key seg (same.each key seg (there key here)) o))
          ∙ sym (ap (λ (c : Bool). cond c (begun_one (bits o.set.name seg) (o.set.due seg)) (o.set.due seg)) (in_here names group host h key is o ∙ here));
    };
    seat = seated names group host h (Begins most bits) _ is.seat;
    plain = λ away key seg. absurd (sends_not (is_sending (begun h b)) sends away);
  })

  -- ---- the queue weighs each segment

  greatest_same : (from : ℕ) (es : List Entry) (key seg : ℕ) → ((j : ℕ) (e : Entry) → slice_get es j ≡ Some e → IsPlain e) → (o : IsOneSet names host h key) → greatest from es key seg ≡ greatest_named from (map (named_entry names) es) o.set.name seg
  unfolding greatest greatest_named
  greatest_same from [] key seg plain o = refl
  greatest_same from (e ∷ es) key seg plain o =
      ap (λ (b : Bool). max (cond b (from + 1) 0) (greatest (from + 1) es key seg)) (touches_same e key seg (plain 0 e refl) o)
      ∙ ap (λ (n : ℕ). max (cond (touches_named (named_entry names e) o.set.name seg) (from + 1) 0) n) (greatest_same (from + 1) es key seg (λ j f is'. plain (suc j) f is') o)

  pub half_weighed : (order : List Entry) → ((j : ℕ) (e : Entry) → slice_get (drop h.known order) j ≡ Some e → IsPlain e) → is_sending h ≡ true → ((key : ℕ) → h.on key ≡ true → h.here key ≡ true) → (half_at host group).sent.entries ≡ map (named_entry names) (drop h.known order)
      → IsHalfOf names group (after_half_stage host group Weighs) (weighed h order)
  half_weighed order plain sends here entries = stepped names group host h Weighs _ (weighed h order) is (record {
    sets = refl;
    here = λ key. refl;
    on = λ key on. on;
    follows = λ key on o. record {
      image = o.image;
      contents = o.contents;
      due = λ seg.
          ap (λ (d : Option ℕ). weighed_one (greatest h.known (drop h.known order) key seg) d) (o.due seg)
          ∙ ap (λ (n : ℕ). weighed_one n (o.set.due seg)) (greatest_same h.known (drop h.known order) key seg plain o)
          ∙ sym (ap (λ (es : List NamedEntry). weighed_one (greatest_named h.known es o.set.name seg) (o.set.due seg)) entries)
          ∙ sym (ap (λ (seat : Seat). weighed_one (greatest_named seat.known (half_at host group).sent.entries o.set.name seg) (o.set.due seg)) is.seat)
          ∙ sym (ap (λ (c : Bool). cond c (weighed_one (greatest_named (half_at host group).seat.known (half_at host group).sent.entries o.set.name seg) (o.set.due seg)) (o.set.due seg)) (in_here names group host h key is o ∙ here key on));
    };
    seat = seated names group host h Weighs _ is.seat;
    plain = λ away key seg. absurd (sends_not (is_sending h) sends away);
  })

  -- ---- an entry is applied

  without_same : (place : ℕ) (ms : List Message) → map (named_message names) (without_place place ms) ≡ without_held place (map (named_message names) ms)
  without_same place [] = refl
  without_same place (m ∷ ms) = by (nat_eq m.place place) (without_same place ms)
    where
      by : (b : Bool) → map (named_message names) (without_place place ms) ≡ without_held place (map (named_message names) ms)
          → map (named_message names) (cond (not b) (m ∷ without_place place ms) (without_place place ms)) ≡ cond (not b) (named_message names m ∷ without_held place (map (named_message names) ms)) (without_held place (map (named_message names) ms))
      by true more = more
      by false more = ap (λ (l : List NamedMessage). named_message names m ∷ l) more

  pub half_applied : (e : Entry) (own : List HostStage) → IsPlain e → is_receiving h ≡ true → is_sending h ≡ false → ((key : ℕ) → h.on key ≡ true → h.here key ≡ true) → MakesImages host own (entry_image host (named_entry names e))
      → IsHalfOf names group (after_half_stage (with_own host own) group (Applies (named_entry names e))) (applied_to h e)
  half_applied e own is_plain receives away here makes = stepped names group host h (Applies (named_entry names e)) _ (applied_to h e) is (record {
    sets = refl;
    here = λ key. refl;
    on = λ key on. on;
    follows = λ key on o. record {
      image = image_put e key own is_plain makes o;
      contents =
          ap (λ (b : Bool). (is_mark e.kind && b) || h.contents key) (on ∙ sym (here key on) ∙ sym (in_here names group host h key is o))
          ∙ ap (λ (c : Bool). (is_mark e.kind && bytes_eq group o.set.group) || c) o.contents;
      due = λ seg.
          one_of (is_mark e.kind) h.due key seg
          ∙ cleared (is_mark e.kind) (bytes_eq group o.set.group) (h.due key seg) (in_here names group host h key is o ∙ here key on)
          ∙ ap (λ (d : Option ℕ). cond (is_mark e.kind && bytes_eq group o.set.group) None d) (o.due seg);
    };
    seat = seated names group (with_own host own) h (Applies (named_entry names e)) _ is.seat ∙ ap (λ (l : List NamedMessage). record (seat_of names (applied_to h e)) { held = l }) (sym (without_same (h.applied + 1) h.held));
    plain = λ _ key seg.
        ap zero_of (one_of (is_mark e.kind) h.due key seg) ∙ plain_after (is_mark e.kind) (h.due key seg) (is.plain away key seg) ∙ sym (one_of (is_mark e.kind) h.due key seg);
  })
    where
      one_of : (mark : Bool) (due : Due) (key seg : ℕ) → (cond mark nothing_due due) key seg ≡ cond mark None (due key seg)
      one_of true due key seg = refl
      one_of false due key seg = refl

      cleared : (mark there : Bool) (d : Option ℕ) → there ≡ true → cond mark None d ≡ cond (mark && there) None d
      cleared true there d is' = sym (ap (λ (b : Bool). cond b None d) is')
      cleared false there d is' = refl

      plain_after : (mark : Bool) (d : Option ℕ) → zero_of d ≡ d → zero_of (cond mark None d) ≡ cond mark None d
      plain_after true d plain = refl
      plain_after false d plain = plain
