-- A fault stops the write of a half in logging: before it, in its bits, behind them, in its blocks, or behind all of it.
use Rattle.std.proofs.Common.{◌≡◌, ◌⊎◌, inl, inr, ℕ, Bool, true, false, ◌&&◌, List, [], ◌∷◌, map, Option, None, Some, ◌∙◌, refl, sym, ap, subst}
use Rattle.std.specs.Prelude.{find}
use Rattle.std.specs.Option.{option_map}
use Rattle.std.specs.Str.{bytes_eq}
use Rattle.std.proofs.lemmas.Option.{same_Some}
use Rattle.avs_seg.specs.Image.{Image, IsMix, put}
use Rattle.avs_seg.specs.Staged.{StoppedIn, run}
use Rattle.avs_seg.proofs.Mixes.{IsMix-put}
use Rattle.avs_model.specs.Hosts.{HostState, Name, Put, has_volume, own_image, with_image}
use Rattle.avs_model.specs.HostPlaces.{image_of, where_is}
use Rattle.avs_model.specs.BothHosts.{other_of}
use Rattle.avs_model.specs.declared.event.Host.{Host}
use Rattle.avs_model.specs.declared.event.Host.TheVariants.{P, S}
use Rattle.avs_mirrors.specs.Accepts.{Accepts}
use Rattle.avs_mirrors.specs.Due.{Keys, zero_of}
use Rattle.avs_mirrors.specs.Entries.{touches, written}
use Rattle.avs_mirrors.specs.Events.{WriteSource, WriteTarget, keeps_queue}
use Rattle.avs_mirrors.specs.EventStages.{IsLeftBy, StopsOn}
use Rattle.avs_mirrors.specs.Half.{HalfState, is_sending, left_sender, with_bits, with_change}
use Rattle.avs_mirrors.specs.HalfStages.{after_half_stage, in_mirrors, noted_one, set_after}
use Rattle.avs_mirrors.specs.MirrorHosts.{Forgets, HalfStage, Leaves, MirrorHalf, MirrorHost, PairSet, NamedKeys, Notes, OfHalf, OfHost, half_at, is_set_named, mirror_set_of}
use Rattle.avs_mirrors.specs.MirrorStates.{AtHost, MirrorState, PairStage, in_pair, with_mirror_host}
use Rattle.avs_mirrors.specs.MoveStages.{IsAtRest, SameKeys, image_changed_to}
use Rattle.avs_mirrors.specs.Moves.{ChangeSource, ChangeTarget, Forget, LeaveSource, Move, NoteSource, NoteTarget, after_all}
use Rattle.avs_mirrors.specs.Pair.{PairState}
use Rattle.avs_mirrors.specs.PairOf.{HaveOwnNames, IsHalfOf, IsPairOf, IsReachedOf, IsOneSet, View, other_host, sender_host}
use Rattle.avs_mirrors.specs.Stops.{StopsAway, StopsWrite}
use Rattle.avs_pair.proofs.AtRest.{rest_image, rests_with}
use Rattle.avs_pair.proofs.HalfMoves.{half_changed, half_noted, sends_not}
use Rattle.avs_pair.proofs.HalfSteps.{imaged}
use Rattle.avs_pair.proofs.Named.{find_map, name_self, same_name}
use Rattle.avs_pair.proofs.PairKept.{moves_kept}
use Rattle.avs_pair.proofs.PairSteps.{Moved, away_sends, moved_more, moved_one, sent_there, source_moved, target_moved}
use Rattle.avs_pair.proofs.Stopping.{left_none}

-- ---- a stage of a half changes no volume, and no name

rest_stepped : (group : Name) (half : MirrorHalf) (stage : HalfStage) (host new : MirrorHost) (name volume : Name) → new.own ≡ host.own → new.sets ≡ map (set_after group half stage) host.sets
    → IsAtRest host name volume → IsAtRest new name volume
rest_stepped group half stage host new name volume own sets rest = record {
  there = ap (λ (o : HostState). has_volume o volume) own ∙ rest.there;
  at_rest = ap (λ (o : HostState). where_is o volume) own ∙ rest.at_rest;
  alone = λ one found'. by one (mirror_set_of host one.name) refl (sym (found_after one.name) ∙ found');
}
  where
    found_after : (n : Name) → mirror_set_of new n ≡ option_map (set_after group half stage) (mirror_set_of host n)
    found_after n = ap (find (is_set_named n)) sets ∙ find_map (is_set_named n) (set_after group half stage) (λ one. refl) host.sets

    by : (one : PairSet) (o : Option PairSet) → mirror_set_of host one.name ≡ o → option_map (set_after group half stage) o ≡ Some one → bytes_eq volume one.volume ≡ bytes_eq name one.name
    by one None found' is' = absurd (cc)
    by one (Some old) found' is' =
        let same_one : set_after group half stage old ≡ one = same_Some (set_after group half stage old) one is' in
        let own_name : old.name ≡ one.name = ap (λ (s : PairSet). s.name) same_one in
        sym (ap (λ (s : PairSet). bytes_eq volume s.volume) same_one)
        ∙ rest.alone old (ap (mirror_set_of host) own_name ∙ found')
        ∙ ap (bytes_eq name) own_name

-- ---- the half that is left

record Noted (names : ℕ → Name) (group : Name) (host : MirrorHost) (h : HalfState) (set at : ℕ) (bytes : Image) (left : MirrorHost) : Type 0 where
  keys : Keys
  within : (t seg : ℕ) → keys t seg ≡ true → touches (written set at bytes) t seg ≡ true
  half : IsHalfOf names group left (with_bits h keys)
  sent : (half_at left group).sent ≡ (half_at host group).sent

record Mixed (names : ℕ → Name) (group : Name) (host : MirrorHost) (h : HalfState) (set at : ℕ) (bytes : Image) (left : MirrorHost) : Type 0 where
  image : Image
  mix : IsMix (h.images set) at bytes image
  half : IsHalfOf names group left (with_change (with_bits h (touches (written set at bytes))) set image)
  sent : (half_at left group).sent ≡ (half_at host group).sent

module _ (names : ℕ → Name) (group : Name) (host : MirrorHost) (h : HalfState) (apart : HaveOwnNames names) (is : IsHalfOf names group host h) (set at : ℕ) (bytes : Image) (named : NamedKeys) (volume : Name)
    (same : SameKeys names h.on (touches (written set at bytes)) named) (rest : IsAtRest host (names set) volume) (on : h.on set ≡ true) (filled : h.contents set ≡ true) where
  noted : MirrorHost
  noted = after_half_stage host group (Notes named)

  noted_half : IsHalfOf names group noted (with_bits h (touches (written set at bytes)))
  unfolding noted
  noted_half = half_noted names group host h apart is (touches (written set at bytes)) named same

  noted_sent : (half_at noted group).sent ≡ (half_at host group).sent
  unfolding noted
  noted_sent = sent_there host group (half_at host group).seat (half_at host group).sent

  -- the set's volume is the one at rest
  image_there : h.images set ≡ own_image host.own volume
  image_there =
      let o : IsOneSet names host h set = is.sets set on in
      let one : volume ≡ o.set.volume = same_name volume o.set.volume (rest.alone o.set (ap (mirror_set_of host) o.named ∙ o.found) ∙ ap (bytes_eq (names set)) o.named ∙ name_self (names set)) in
      o.image ∙ ap (image_of host.own) (sym one) ∙ rest_image host (names set) volume rest

  rest_noted : IsAtRest noted (names set) volume
  unfolding noted
  rest_noted = rest_stepped group (half_at host group) (Notes named) host noted (names set) volume refl refl rest

  mixed : (left : MirrorHost) (image : Image) → IsMix (own_image host.own volume) at bytes image → left ≡ record noted { own = with_image host.own volume image } → Mixed names group host h set at bytes left
  unfolding noted
  mixed left image mix so = record {
    image = image;
    mix = subst (λ (i : Image). IsMix i at bytes image) (sym image_there) mix;
    half = subst (λ (one : MirrorHost). IsHalfOf names group one (with_change (with_bits h (touches (written set at bytes))) set image)) (sym so)
        (half_changed names group noted (with_bits h (touches (written set at bytes))) apart noted_half set image (with_image host.own volume image) filled (λ one found'. rests_as one found'));
    sent = ap (λ (one : MirrorHost). (half_at one group).sent) so ∙ noted_sent;
  }
    where
      rests_as : (one : PairSet) → mirror_set_of noted one.name ≡ Some one → image_of (with_image host.own volume image) one.volume ≡ image_changed_to noted (names set) image one
      rests_as one found' = rests_with noted (names set) volume image rest_noted one found'

  both_true : (a b : Bool) → (a && b) ≡ true → (a ≡ true) × (b ≡ true)
  both_true true b is = (refl, is)
  both_true false b is = absurd (sends_not false is refl)

  left_by : (left : MirrorHost) → StoppedIn in_mirrors host (OfHalf group (Notes named) ∷ OfHost (Put volume at bytes) ∷ []) left → (left ≡ host) ⊎ (Noted names group host h set at bytes left ⊎ Mixed names group host h set at bytes left)
  unfolding noted
  left_by left (inl none) = inl none
  left_by left (inr (inl part)) = inr (inl (record {
    keys = λ t seg. h.on t && part.0 (names t) seg;
    within = λ t seg some. let both = both_true (h.on t) (part.0 (names t) seg) some in sym (same.each t seg both.0) ∙ part.1.within (names t) seg both.1;
    half = subst (λ (one : MirrorHost). IsHalfOf names group one (with_bits h (λ t seg. h.on t && part.0 (names t) seg))) (sym part.2)
        (half_noted names group host h apart is (λ t seg. h.on t && part.0 (names t) seg) part.0 (record { each = λ t seg there. sym (ap (λ (b : Bool). b && part.0 (names t) seg) there) }));
    sent = ap (λ (one : MirrorHost). (half_at one group).sent) part.2 ∙ sent_there host group (half_at host group).seat (half_at host group).sent;
  }))
  left_by left (inr (inr (inl all))) = inr (inl (record {
    keys = touches (written set at bytes);
    within = λ t seg some. some;
    half = subst (λ (one : MirrorHost). IsHalfOf names group one (with_bits h (touches (written set at bytes)))) (sym all) noted_half;
    sent = ap (λ (one : MirrorHost). (half_at one group).sent) all ∙ noted_sent;
  }))
  left_by left (inr (inr (inr (inl midst)))) = inr (inr (mixed left midst.1.0.0 midst.1.0.1 (midst.1.1 ∙ ap (λ (own : HostState). record (after_half_stage host group (Notes named)) { own = own }) midst.1.0.2)))
  left_by left (inr (inr (inr (inr all)))) = inr (inr (mixed left (put (own_image host.own volume) at bytes) (IsMix-put (own_image host.own volume) at bytes) all))

-- ---- both halves

moved_to : (state : MirrorState) (at : Host) (left : MirrorHost) → Moved state at left state.workers (with_mirror_host state at left)
moved_to state P left = record { this = refl; that = refl; workers' = refl }
moved_to state S left = record { this = refl; that = refl; workers' = refl }

-- a half that does not send keeps no queue
no_queue : (queued sends marked : Bool) → sends ≡ false → (queued && sends && marked) ≡ false
no_queue true sends marked off = ap (λ (b : Bool). b && marked) off
no_queue false sends marked off = refl

stops_logged : (queued : Bool) (p : PairState) (set at : ℕ) (bytes : Image) (ms : List Move) → is_sending p.source ≡ false → StopsAway NoteSource ChangeSource p.source.images (written set at bytes) ms → StopsWrite queued p (written set at bytes) ms
stops_logged queued p set at bytes ms off away = record {
  away = λ _. away;
  dropped = λ sends _. absurd (sends_not (is_sending p.source) sends off);
  kept = λ keeps. absurd (sends_not (keeps_queue queued p.source) keeps (no_queue queued (is_sending p.source) _ off));
}

pub source_torn : (view : View) (state : MirrorState) (p : PairState) (queued : Bool) (set at : ℕ) (bytes : Image) (named : NamedKeys) (volume : Name) → IsPairOf view state p → Accepts p (WriteSource set at bytes) → is_sending p.source ≡ false
    → SameKeys view.names p.source.on (touches (written set at bytes)) named → IsAtRest (sender_host view state) (view.names set) volume
    → StopsOn view state p (record { event = WriteSource set at bytes; queued = queued; host = view.sender }) (OfHalf view.group (Notes named) ∷ OfHost (Put volume at bytes) ∷ [])
source_torn view state p queued set at bytes named volume is accepts off same rest = record { each = λ left stopped. by left (left_by view.names view.group (sender_host view state) p.source is.apart is.source set at bytes named volume same rest accepts.write.on accepts.write.contents left stopped) }
  where
    none_sent : {A : Type 0} → is_sending p.source ≡ true → A
    none_sent sends = absurd (sends_not (is_sending p.source) sends off)

    by : (left : MirrorHost) → (left ≡ sender_host view state) ⊎ (Noted view.names view.group (sender_host view state) p.source set at bytes left ⊎ Mixed view.names view.group (sender_host view state) p.source set at bytes left)
        → IsLeftBy view state p (record { event = WriteSource set at bytes; queued = queued; host = view.sender }) left
    by left (inl none) = left_none view state p (record { event = WriteSource set at bytes; queued = queued; host = view.sender }) left is none
    by left (inr (inl n)) = record {
      moves = NoteSource n.keys ∷ [];
      stops = inl (stops_logged queued p set at bytes (NoteSource n.keys ∷ []) off (inl (record { part = n.keys; within = n.within; is = refl })));
      after = source_moved view state _ left state.workers p _ p.session p.messages is (moved_to state view.sender left) n.half (λ sends. none_sent sends) is.workers;
    }
    by left (inr (inr m)) = record {
      moves = NoteSource (touches (written set at bytes)) ∷ ChangeSource set m.image ∷ [];
      stops = inl (stops_logged queued p set at bytes (NoteSource (touches (written set at bytes)) ∷ ChangeSource set m.image ∷ []) off (inr (record { image = m.image; mix = m.mix; is = refl })));
      after = source_moved view state _ left state.workers p _ p.session p.messages is (moved_to state view.sender left) m.half (λ sends. none_sent sends) is.workers;
    }

pub target_torn : (view : View) (state : MirrorState) (p : PairState) (queued : Bool) (set at : ℕ) (bytes : Image) (named : NamedKeys) (volume : Name) → IsPairOf view state p → Accepts p (WriteTarget set at bytes)
    → SameKeys view.names p.target.on (touches (written set at bytes)) named → IsAtRest (other_host view state) (view.names set) volume
    → StopsOn view state p (record { event = WriteTarget set at bytes; queued = queued; host = other_of view.sender }) (OfHalf view.group (Notes named) ∷ OfHost (Put volume at bytes) ∷ [])
target_torn view state p queued set at bytes named volume is accepts same rest = record { each = λ left stopped. by left (left_by view.names view.group (other_host view state) p.target is.apart is.target set at bytes named volume same rest accepts.1.on accepts.1.contents left stopped) }
  where
    by : (left : MirrorHost) → (left ≡ other_host view state) ⊎ (Noted view.names view.group (other_host view state) p.target set at bytes left ⊎ Mixed view.names view.group (other_host view state) p.target set at bytes left)
        → IsLeftBy view state p (record { event = WriteTarget set at bytes; queued = queued; host = other_of view.sender }) left
    by left (inl none) = left_none view state p (record { event = WriteTarget set at bytes; queued = queued; host = other_of view.sender }) left is none
    by left (inr (inl n)) = record {
      moves = NoteTarget n.keys ∷ [];
      stops = inl (inl (record { part = n.keys; within = n.within; is = refl }));
      after = target_moved view state _ left state.workers p _ p.session p.messages is (moved_to state (other_of view.sender) left) n.half is.sent is.workers;
    }
    by left (inr (inr m)) = record {
      moves = NoteTarget (touches (written set at bytes)) ∷ ChangeTarget set m.image ∷ [];
      stops = inl (inr (record { image = m.image; mix = m.mix; is = refl }));
      after = target_moved view state _ left state.workers p _ p.session p.messages is (moved_to state (other_of view.sender) left) m.half is.sent is.workers;
    }

-- ---- a half that sends and does not keep its session has left it

abbrev pub leaving : View → List PairStage
leaving view = AtHost view.sender (OfHalf view.group Leaves) ∷ AtHost view.sender (OfHalf view.group Forgets) ∷ []

abbrev pub behind : View → MirrorState → MirrorState
behind view state = run in_pair state (leaving view)

abbrev pub gone : PairState → PairState
gone p = after_all p (LeaveSource ∷ Forget ∷ [])

left_session : (view : View) (state : MirrorState) (p : PairState) → IsReachedOf view state p → IsReachedOf view (behind view state) (gone p)
left_session view state p is = moves_kept view state p (LeaveSource ∷ Forget ∷ []) (leaving view) is (tt, (away_sends (left_sender p.source) refl, tt)) (_, _, refl, (_, _, refl, refl, refl), refl)

rest_left : (group : Name) (host : MirrorHost) (name volume : Name) → IsAtRest host name volume → IsAtRest (after_half_stage (after_half_stage host group Leaves) group Forgets) name volume
rest_left group host name volume rest =
    let once : IsAtRest (after_half_stage host group Leaves) name volume = rest_stepped group (half_at host group) Leaves host (after_half_stage host group Leaves) name volume refl refl rest in
    rest_stepped group (half_at (after_half_stage host group Leaves) group) Forgets (after_half_stage host group Leaves) (after_half_stage (after_half_stage host group Leaves) group Forgets) name volume refl refl once

rest_behind : (view : View) (state : MirrorState) (name volume : Name) → IsAtRest (sender_host view state) name volume → IsAtRest (sender_host view (behind view state)) name volume
rest_behind view state name volume rest =
    let moved : Moved state view.sender (after_half_stage (after_half_stage (sender_host view state) view.group Leaves) view.group Forgets) state.workers (behind view state) =
    moved_more state view.sender _ state.workers _ (OfHalf view.group Forgets) (moved_one state view.sender (OfHalf view.group Leaves)) in
    subst (λ (one : MirrorHost). IsAtRest one name volume) (sym moved.this) (rest_left view.group (sender_host view state) name volume rest)

none_noted : (o : Option ℕ) → noted_one false o ≡ o
none_noted None = refl
none_noted (Some place) = refl

-- without a bit it is as it was
half_same : (names : ℕ → Name) (group : Name) (host : MirrorHost) (h : HalfState) → IsHalfOf names group host h → IsHalfOf names group host (with_bits h (λ t seg. false))
half_same names group host h is = imaged names group host host.own h (with_bits h (λ t seg. false)) is (record {
  here = λ key. refl;
  on = λ key on. on;
  images = λ key on o. o.image;
  contents = λ key on. refl;
  due = λ key seg. none_noted (h.due key seg);
  seat = refl;
  plain = λ away key seg. ap zero_of (none_noted (h.due key seg)) ∙ is.plain away key seg ∙ sym (none_noted (h.due key seg));
})

stops_dropped : (queued : Bool) (p : PairState) (set at : ℕ) (bytes : Image) (more : List Move) → is_sending p.source ≡ true → keeps_queue queued p.source ≡ false → StopsAway NoteSource ChangeSource p.source.images (written set at bytes) more
    → StopsWrite queued p (written set at bytes) (LeaveSource ∷ Forget ∷ more)
stops_dropped queued p set at bytes more sends none stops = record {
  away = λ off. absurd (sends_not (is_sending p.source) sends off);
  dropped = λ _ _. record { more = more; stops = stops; is = refl };
  kept = λ keeps. absurd (sends_not (keeps_queue queued p.source) keeps none);
}

pub dropped_torn : (view : View) (state : MirrorState) (p : PairState) (queued : Bool) (set at : ℕ) (bytes : Image) (named : NamedKeys) (volume : Name) → IsReachedOf view state p → Accepts p (WriteSource set at bytes) → is_sending p.source ≡ true
    → keeps_queue queued p.source ≡ false → SameKeys view.names p.source.on (touches (written set at bytes)) named → IsAtRest (sender_host view state) (view.names set) volume
    → StopsOn view (behind view state) p (record { event = WriteSource set at bytes; queued = queued; host = view.sender }) (OfHalf view.group (Notes named) ∷ OfHost (Put volume at bytes) ∷ [])
dropped_torn view state p queued set at bytes named volume is accepts sends none same rest = record { each = λ left stopped. by left (left_by view.names view.group (sender_host view (behind view state)) (gone p).source there.is.apart there.is.source set at bytes named volume same (rest_behind view state (view.names set) volume rest) accepts.write.on accepts.write.contents left stopped) }
  where
    there : IsReachedOf view (behind view state) (gone p)
    there = left_session view state p is

    none_sent : {A : Type 0} → is_sending (gone p).source ≡ true → A
    none_sent on = absurd (sends_not (is_sending (gone p).source) on (away_sends (gone p).source refl))

    by : (left : MirrorHost)
        → (left ≡ sender_host view (behind view state)) ⊎ (Noted view.names view.group (sender_host view (behind view state)) (gone p).source set at bytes left ⊎ Mixed view.names view.group (sender_host view (behind view state)) (gone p).source set at bytes left)
        → IsLeftBy view (behind view state) p (record { event = WriteSource set at bytes; queued = queued; host = view.sender }) left
    by left (inl nothing) = record {
      moves = LeaveSource ∷ Forget ∷ NoteSource (λ t seg. false) ∷ [];
      stops = inl (stops_dropped queued p set at bytes (NoteSource (λ t seg. false) ∷ []) sends none (inl (record { part = λ t seg. false; within = λ t seg some. absurd (sends_not false some refl); is = refl })));
      after = source_moved view (behind view state) _ left (behind view state).workers (gone p) _ (gone p).session (gone p).messages there.is (moved_to (behind view state) view.sender left)
          (subst (λ (host : MirrorHost). IsHalfOf view.names view.group host (with_bits (gone p).source (λ t seg. false))) (sym nothing) (half_same view.names view.group _ (gone p).source there.is.source))
          (λ on. none_sent on) there.is.workers;
    }
    by left (inr (inl n)) = record {
      moves = LeaveSource ∷ Forget ∷ NoteSource n.keys ∷ [];
      stops = inl (stops_dropped queued p set at bytes (NoteSource n.keys ∷ []) sends none (inl (record { part = n.keys; within = n.within; is = refl })));
      after = source_moved view (behind view state) _ left (behind view state).workers (gone p) _ (gone p).session (gone p).messages there.is (moved_to (behind view state) view.sender left) n.half (λ on. none_sent on) there.is.workers;
    }
    by left (inr (inr m)) = record {
      moves = LeaveSource ∷ Forget ∷ NoteSource (touches (written set at bytes)) ∷ ChangeSource set m.image ∷ [];
      stops = inl (stops_dropped queued p set at bytes (NoteSource (touches (written set at bytes)) ∷ ChangeSource set m.image ∷ []) sends none (inr (record { image = m.image; mix = m.mix; is = refl })));
      after = source_moved view (behind view state) _ left (behind view state).workers (gone p) _ (gone p).session (gone p).messages there.is (moved_to (behind view state) view.sender left) m.half (λ on. none_sent on) there.is.workers;
    }
