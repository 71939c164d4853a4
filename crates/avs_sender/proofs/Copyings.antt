-- A sender copies a segment, or places the mark: what it stands for then, and why it does not.
use Rattle.std.proofs.Common.{◌≡◌, inl, inr, ℕ, ◌+◌, ◌*◌, ◌/◌, ◌<◌, ◌≤◌, ◌^◌, Bool, true, false, cond, List, [], length, replicate, get_or, Ok, Err, IsTrue, ◌∙◌, sym, refl, ap, subst, arith}
use Rattle.std.specs.Prelude.{nat_lt}
use Rattle.std.proofs.lemmas.Bool.Decides.{nat_tests}
use Rattle.std.proofs.lemmas.List.{length-replicate}
use Rattle.avs_seg.specs.Image.{Block, Image, blocks_of, range}
use Rattle.avs_seg.specs.Segment.{seg_count, seg_len, segment}
use Rattle.avs_seg.proofs.Bytes.{length-blocks_of}
use Rattle.avs_seg.proofs.Cuts.{segment-range}
use Rattle.avs_dev.proofs.Going.{spared_same}
use Rattle.avs_dev.specs.Below.{BelowSeen, IsRangeOf, IsToldAt, ReadsBelow, size_of}
use Rattle.avs_model.specs.declared.entry.Entry.{Entry}
use Rattle.avs_model.specs.declared.entry.Full.{Full}
use Rattle.avs_model.specs.declared.answer.Refusal.{Refusal}
use Rattle.avs_model.specs.declared.answer.Refusal.TheVariants as refusal
use Rattle.avs_mqueue.specs.Queue.{full_of, is_full_for}
use Rattle.avs_mirrors.specs.Due.{copied_due}
use Rattle.avs_mirrors.specs.Entries.{a_mark}
use Rattle.avs_mirrors.specs.Half.{Replicating, with_copy, with_mark}
use Rattle.avs_sync.specs.Note.{IsNote}
use Rattle.avs_sync.specs.declared.note.Note.{Note}
use Rattle.avs_halves.specs.SetBits.{SetBits, set_at}
use Rattle.avs_halves.specs.Changing.{ChangesSets}
use Rattle.avs_halves.specs.Over.{IsOver}
use Rattle.avs_halves.proofs.Staying.{over_sizes, set_same}
use Rattle.avs_sender.specs.Held.{SenderHalf, held, parts_of}
use Rattle.avs_sender.specs.Kept.{IsKept}
use Rattle.avs_sender.specs.Learning.{IsStopped}
use Rattle.avs_sender.specs.Meaning.{IsSenderInStep, due_of, found_by, sender_of}
use Rattle.avs_sender.specs.Placing.{HasCopied, HasMarked, HasRoom, IsCopyOf, IsEntryOver, IsFirstWaiting, NoneIsWaiting}
use Rattle.avs_sender.specs.Copying.{Copies, HasNoRoomForNext, IsCopying, IsLeastDue, IsNextCopy, IsNextMark, IsSpanOf, IsSyncStopped, Marks, AllArePlaced, copied}
use Rattle.avs_sender.proofs.Admittings.{sender_with}
use Rattle.avs_halves.proofs.Following.{changes_none}
use Rattle.avs_sender.proofs.Learned.{sends_if}
use Rattle.avs_sender.proofs.Meanings.{again_is, found_is, images_in}
use Rattle.avs_sender.proofs.PlacedCopies.{not_due, waiting_low, zero_due}

low_on : (a b : ℕ) → a < b → nat_lt a b ≡ true
low_on a b low = grind (arith, nat_tests)

whole_of : (n : ℕ) → 512 * n / 512 ≡ n
whole_of n = omega arith

-- ---- a step that changes the memory alone

-- whatever places and entries it has then
pub step_same : (sound sound_new : Type 0) (below : BelowSeen) (h g : SenderHalf) → g.sets ≡ h.sets → g.note ≡ h.note → (sound → sound_new) → IsSenderInStep sound (held below h) → IsSenderInStep sound_new (held below g)
step_same sound sound_new below h g sets note sounds st = record {
  sound = sounds st.sound;
  stored = st.stored;
  note = subst (λ (n : Note). IsNote below.note n) (sym note) st.note;
  volumes = subst (λ (l : List SetBits). (t : ℕ) → t < length l → IsToldAt below (set_at l t).vol) (sym sets) st.volumes;
  bits = subst (λ (l : List SetBits). Rattle.avs_halves.specs.SetBits.AreInStep l) (sym sets) st.bits;
}

-- ---- the segment that is copied next

module _ (below : BelowSeen) (h : SenderHalf) (kept : IsKept h) (over : IsOver below h.sets) (may : IsCopying (held below h)) (set seg : ℕ) (first : IsFirstWaiting h.places set seg) where
  there : set < length h.sets
  there = omega (arith, first.there, kept.count)

  pub least_due : IsLeastDue (sender_of (held below h)) set seg
  least_due = record {
    waits = zero_due h kept may.session set seg there may.unmarked first.least.on;
    below = λ s low. not_due h kept may.session set s (first.least.before s low);
    before = λ t s low. not_due h kept may.session t s (first.before t s low);
  }

  pub seg_low : seg < seg_count (size_of below (set_at h.sets set).vol)
  seg_low = omega (arith, waiting_low _ seg first.least.on, (kept.places set there).waiting, (over.each set there).segs)

  module _ (at len : ℕ) (span : IsSpanOf (held below h) set seg at len) where
    len_is : len ≡ seg_len seg (size_of below (set_at h.sets set).vol)
    len_is = span.len_is

    some_blocks : 0 < len
    some_blocks = omega (arith, len_is, seg_low)

    short_blocks : len ≤ 64
    short_blocks = omega (arith, len_is)

    ends : at + len ≤ size_of below (set_at h.sets set).vol
    ends = omega (arith, len_is, span.at_is, seg_low)

    pub range_is : (bytes : ℕ) → bytes ≡ 512 * len → IsRangeOf below (set_at h.sets set).vol at bytes
    range_is bytes is = let n : bytes / 512 ≡ len = omega (arith, is) in record {
      there = (over.each set there).there;
      some = omega (arith, is, some_blocks);
      whole = omega (arith, is);
      inside = omega (arith, n, ends);
    }

    pub range_at : (vol bytes : ℕ) → vol ≡ (set_at h.sets set).vol → bytes ≡ 512 * len → IsRangeOf below vol at bytes
    range_at vol bytes is size = subst (λ (v : ℕ). IsRangeOf below v at bytes) (sym is) (range_is bytes size)

    -- any blocks make a copy of it
    pub next_copy : (blocks : Image) → length blocks ≡ len → IsNextCopy (held below h) set seg (copied set seg blocks)
    next_copy blocks count = record { least = least_due; blocks = blocks; count = count ∙ span.len_is; is = refl }

    -- the queue has no room for it
    pub no_room : (full_is : Full) (why : Refusal) → why ≡ refusal.QueueFull full_is.writes full_is.blocks → full_is ≡ full_of h.queue → is_full_for h.queue len ≡ true → HasNoRoomForNext (held below h) why (held below h)
    no_room full_is why answer is full = record {
      may = may;
      entry = copied set seg (replicate len []);
      next = inl (set, seg, next_copy (replicate len []) (length-replicate {A = Block} len []));
      full = record { answer = answer ∙ ap (λ (f : Full). refusal.QueueFull f.writes f.blocks) is; full = ap (λ (n : ℕ). is_full_for h.queue n) (length-replicate {A = Block} len []) ∙ full; kept = refl };
    }

    module _ (e : Entry) (out : List ℕ) (is : e ≡ copied set seg (blocks_of out)) (bytes : length out ≡ 512 * len) where
      count_is : length e.bytes ≡ len
      count_is = ap (λ (x : Entry). length x.bytes) is ∙ length-blocks_of out ∙ ap (λ (n : ℕ). n / 512) bytes ∙ whole_of len

      set_is : e.set ≡ set
      set_is = ap (λ (x : Entry). x.set) is

      at_is : e.at ≡ 64 * seg
      at_is = ap (λ (x : Entry). x.at) is

      pub copy_room : h.session.last < 2 ^ 62 → is_full_for h.queue len ≡ false → HasRoom h e
      copy_room last fits = record { session = may.session; last = last; room = ap (λ (n : ℕ). is_full_for h.queue n) count_is ∙ fits }

      pub copy_over : IsEntryOver h e at len
      copy_over = record {
        there = subst (λ (s : ℕ). s < length h.sets) (sym set_is) there;
        at_is = at_is ∙ sym span.at_is;
        count = count_is;
        some = some_blocks;
        inside = subst (λ (s : ℕ). at + len ≤ 64 * (set_at h.sets s).bits.segs) (sym set_is) (let v = over.each set there in omega (arith, ends, v.segs));
        small = let v = over.each set there in omega (arith, ends, v.small);
      }

      pub copy_is : IsCopyOf h e seg
      copy_is = record {
        unmarked = may.unmarked;
        waits = subst (λ (s : ℕ). Rattle.avs_sender.specs.Waits.waits_at (Rattle.avs_sender.specs.Places.places_in h.places s).waiting seg ≡ true) (sym set_is) first.least.on;
        at_is = at_is;
        short = omega (arith, count_is, short_blocks);
      }

      -- done
      module _ {E : Type 0} (sound sound_new : Type 0) (new : BelowSeen) (u : Unit {0}) (reads : ReadsBelow {E = E} sound below (set_at h.sets set).vol at out (Ok u) new) (g : SenderHalf) (c : HasCopied h e seg g) (fits : is_full_for h.queue len ≡ false) (sounds : sound → sound_new) where
        below_is : new ≡ below
        below_is = reads.kept ∙ ap (λ (f : List ℕ). record below { faults = f }) reads.cause.same

        due_is : due_of g ≡ copied_due (due_of h) set seg (h.session.last + 1)
        due_is = c.due ∙ ap (λ (s : ℕ). copied_due (due_of h) s seg (h.session.last + 1)) set_is

        half_then : sender_of (held below g) ≡ with_copy (sender_of (held below h)) set seg (h.session.last + 1)
        half_then =
            sender_with {E = Unit {0}} (λ t s. false) true (Ok (tt {0})) below below h g (subst (λ (l : List SetBits). ChangesSets {T = Unit {0}} {E = Unit {0}} (λ t s. false) true h.sets (Ok (tt {0})) l) (sym (ap (λ (k : SenderHalf). k.sets) c.rest)) (changes_none true h.sets tt))
            (ap (λ (k : SenderHalf). k.note) c.rest) (ap (λ (k : SenderHalf). k.session.number) c.rest) (images_in h.sets below.images) (ap (λ (k : SenderHalf). images_in k.sets below.images) c.rest)
            (copied_due (due_of h) set seg (h.session.last + 1)) due_is
            ∙ (λ i. record (sender_of (held below h)) {
              state = ap (λ (k : SenderHalf). k.session.state) c.rest i;
              last = ap (λ (k : SenderHalf). k.session.last) c.rest i;
              known = ap (λ (k : SenderHalf). k.session.known) c.rest i;
              due = copied_due (due_of h) set seg (h.session.last + 1);
            })

        shows_is : IsSenderInStep sound (held below h) → e.bytes ≡ segment ((sender_of (held below h)).images set) seg
        shows_is st =
            let told : IsToldAt below (set_at h.sets set).vol = st.volumes set there in
            ap (λ (x : Entry). x.bytes) is ∙ reads.shows st.sound told
            ∙ ap (λ (n : ℕ). range (get_or below.images (set_at h.sets set).vol []) at n) (ap (λ (n : ℕ). n / 512) bytes ∙ whole_of len ∙ len_is ∙ ap (λ (n : ℕ). seg_len seg n) (sym told))
            ∙ ap (λ (n : ℕ). range (get_or below.images (set_at h.sets set).vol []) n (seg_len seg (length (get_or below.images (set_at h.sets set).vol [])))) span.at_is
            ∙ sym (segment-range (get_or below.images (set_at h.sets set).vol []) seg)
            ∙ ap (λ (img : Image). segment img seg) (sym (ap (λ (b : Bool). cond b (get_or below.images (set_at h.sets set).vol []) []) (low_on set (length h.sets) there)))

        pub copies_is : Copies sound sound_new (held below h) (h.session.last + 1) set seg (held new g)
        copies_is = subst (λ (b : BelowSeen). Copies sound sound_new (held below h) (h.session.last + 1) set seg (held b g)) (sym below_is) (record {
          entry = e;
          has = record {
            may = may;
            room = ap (λ (n : ℕ). is_full_for h.queue n) count_is ∙ fits;
            answer = refl;
            queue = c.queue;
            below = refl;
            step = λ st. step_same sound sound_new below h g (ap (λ (k : SenderHalf). k.sets) c.rest) (ap (λ (k : SenderHalf). k.note) c.rest) sounds st;
          };
          copy = record {
            next = record { least = least_due; blocks = blocks_of out; count = sym (ap (λ (x : Entry). length x.bytes) is) ∙ count_is ∙ span.len_is; is = is };
            shows = λ st. shows_is st;
            half = c.rest;
            done = half_then;
          };
        })

      -- by its volume
      pub copies_made : {E : Type 0} (sound sound_new : Type 0) (new : BelowSeen) (u : Unit {0}) (g : SenderHalf) → HasCopied h e seg g → is_full_for h.queue len ≡ false → (sound → sound_new) → (vol : ℕ) → vol ≡ (set_at h.sets set).vol
          → ReadsBelow {E = E} sound below vol at out (Ok u) new → Copies sound sound_new (held below h) (h.session.last + 1) set seg (held new g)
      copies_made {E = E} sound sound_new new u g c fits sounds vol vol_is reads =
          copies_is sound sound_new new u (subst (λ (v : ℕ). ReadsBelow {T = Unit {0}} {E = E} sound below v at out (Ok u) new) vol_is reads) g c fits sounds

-- ---- the blocks were not read

module _ {T E : Type 0} (sound : Type 0) (below new : BelowSeen) (h g : SenderHalf) (kept : IsKept h) (over : IsOver below h.sets) (may : IsCopying (held below h)) (vol at : ℕ) (out : List ℕ) (x : E) (reads : ReadsBelow {T = T} sound below vol at out (Err x) new) (s : IsStopped h g) where
  steady_is : new.steady ≡ below.steady
  steady_is = ap (λ (b : BelowSeen). b.steady) reads.kept

  stored_is : new.stored ≡ below.stored
  stored_is = ap (λ (b : BelowSeen). b.stored) reads.kept

  not_sure : IsTrue below.steady → ⊥
  not_sure steady = no (reads.sure steady)
    where
      no : false ≡ true → ⊥
      no is = cc

  pub read_stopped : IsSyncStopped sound (held below h) refusal.Fault (held new g)
  read_stopped = subst (λ (k : SenderHalf). IsSyncStopped sound (held below h) refusal.Fault (held new k)) (sym s.rest) (record {
    answer = refl;
    may = may;
    stays = record {
      host = refl;
      land = refl;
      limits = s.limits;
      count = refl;
      sets = λ t. set_same (set_at h.sets t);
      below = record { sizes = reads.sizes; steady = steady_is; told = λ so any told. reads.told any told; noted = λ told. subst (λ (o : _). IsTrue (Rattle.std.specs.Prelude.is_some o)) (sym stored_is) told; faults = reads.cause.later };
    };
    failed = record { failed = record { rose = reads.cause.failed; spent = λ steady. absurd (not_sure steady) }; sets = λ t. spared_same (set_at h.sets t).bits.disk };
    unsteady = not_sure;
    left = refl;
    stopped = λ st. ap (λ (n : Note). found_by n (parts_of (held new h))) (again_is new below.note h.note (stored_is ∙ st.stored) st.note)
        ∙ found_is below new h h.note (sym kept.session.number) refl refl reads.images st.bits (over_sizes below new h.sets reads.sizes over);
  })

-- ---- the mark

module _ (sound : Type 0) (below : BelowSeen) (h : SenderHalf) (kept : IsKept h) (may : IsCopying (held below h)) (none : NoneIsWaiting h.places) where
  pub none_waits : AllArePlaced (sender_of (held below h))
  none_waits t s = not_due h kept may.session t s (none t s)

  pub next_mark : IsNextMark (held below h) a_mark
  next_mark = record { none = none_waits; is = refl }

  pub no_room_mark : (full_is : Full) (why : Refusal) → why ≡ refusal.QueueFull full_is.writes full_is.blocks → full_is ≡ full_of h.queue → is_full_for h.queue 0 ≡ true → HasNoRoomForNext (held below h) why (held below h)
  no_room_mark full_is why answer is full = record {
    may = may;
    entry = a_mark;
    next = inr next_mark;
    full = record { answer = answer ∙ ap (λ (f : Full). refusal.QueueFull f.writes f.blocks) is; full = full; kept = refl };
  }

  pub mark_room : (e : Entry) → e ≡ a_mark → h.session.last < 2 ^ 62 → is_full_for h.queue 0 ≡ false → HasRoom h e
  mark_room e is last fits = subst (λ (x : Entry). HasRoom h x) (sym is) (record { session = may.session; last = last; room = fits })

  pub marks_is : (g : SenderHalf) → HasMarked h g → is_full_for h.queue 0 ≡ false → Marks sound sound (held below h) (h.session.last + 1) (held below g)
  marks_is g c fits = record {
    entry = a_mark;
    has = record {
      may = may;
      room = fits;
      answer = refl;
      queue = c.queue;
      below = refl;
      step = λ st. step_same sound sound below h g (ap (λ (k : SenderHalf). k.sets) c.rest) (ap (λ (k : SenderHalf). k.note) c.rest) (λ s. s) st;
    };
    mark = record { next = next_mark; half = c.rest; done = half_then };
  }
    where
      state_is : g.session.state ≡ h.session.state
      state_is = ap (λ (k : SenderHalf). k.session.state) c.rest ∙ ap (λ (b : Bool). cond b h.session.state Replicating) (sends_if h.note h.session kept.session may.session)

      half_then : sender_of (held below g) ≡ with_mark (sender_of (held below h)) (h.session.last + 1)
      half_then =
          sender_with {E = Unit {0}} (λ t s. false) true (Ok (tt {0})) below below h g (subst (λ (l : List SetBits). ChangesSets {T = Unit {0}} {E = Unit {0}} (λ t s. false) true h.sets (Ok (tt {0})) l) (sym (ap (λ (k : SenderHalf). k.sets) c.rest)) (changes_none true h.sets tt))
          (ap (λ (k : SenderHalf). k.note) c.rest) (ap (λ (k : SenderHalf). k.session.number) c.rest) (images_in h.sets below.images) (ap (λ (k : SenderHalf). images_in k.sets below.images) c.rest) (due_of h) c.due
          ∙ (λ i. record (sender_of (held below h)) {
            state = state_is i;
            last = ap (λ (k : SenderHalf). k.session.last) c.rest i;
            known = ap (λ (k : SenderHalf). k.session.known) c.rest i;
          })
