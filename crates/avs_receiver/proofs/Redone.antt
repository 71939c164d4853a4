-- What has landed of its session is done once more.
use Rattle.std.proofs.Common.{◌≡◌, ◌⊎◌, inl, inr, ℕ, ◌<◌, ◌≤◌, Bool, true, false, ◌&&◌, not, cond, eqb, List, [], length, get_or, min, Result, Ok, Err, Some, ◌∙◌, sym, refl, ap, subst, arith}
use Rattle.std.specs.Prelude.{nat_lt, codes}
use Rattle.std.proofs.Math.ListN.{get_or-map}
use Rattle.std.proofs.lemmas.List.{length-map}
use Rattle.std.proofs.lemmas.Bool.{cases_Bool}
use Rattle.std.proofs.lemmas.Bool.Decides.{nat_tests}
use Rattle.avs_seg.specs.Image.{Image, block_at, put, IsMix}
use Rattle.avs_seg.proofs.Ranges.{length-range}
use Rattle.avs_dev.specs.Seen.{Lasts, Fails}
use Rattle.avs_dev.specs.Below.{BelowSeen, IsToldAt, WritesBelow}
use Rattle.avs_dev.specs.declared.back.Why.{Why}
use Rattle.avs_dev.specs.declared.back.Why.TheVariants.{Fault}
use Rattle.avs_dev.proofs.Going.{spared_same}
use Rattle.avs_code.proofs.HeaderBlocks.{header_at-is}
use Rattle.avs_model.specs.declared.entry.Entry.{Entry}
use Rattle.avs_model.specs.declared.entry.EntryKind.TheVariants.{Write, Copied, Mark}
use Rattle.avs_mirrors.specs.Due.{Due, nothing_due}
use Rattle.avs_mirrors.specs.Entries.{Images, after_entry, is_mark}
use Rattle.avs_mirrors.specs.Half.{HalfState, Sets, State, Logging, Replicating, applied_to, is_marked, is_receiver, is_session, left_receiver}
use Rattle.avs_sync.specs.Note.{IsNote}
use Rattle.avs_sync.specs.declared.note.Note.{Note}
use Rattle.avs_sync.proofs.Notes.{note_at-is}
use Rattle.avs_halves.specs.SetBits.{SetBits, due_of, no_set, set_at}
use Rattle.avs_halves.specs.Changing.{ChangesSets, every}
use Rattle.avs_halves.specs.Found.{due_found, stored_bytes}
use Rattle.avs_halves.specs.Over.{IsOver}
use Rattle.avs_halves.specs.Writing.{PutsNote}
use Rattle.avs_halves.proofs.Staying.{below_noted, below_same, below_written, over_sizes, set_same, sets_stay, told_note}
use Rattle.avs_land.specs.Landed.{entry_kind, landed_blocks}
use Rattle.avs_land.specs.Landing.{Landing}
use Rattle.avs_land.specs.Redo.{AreLanded, IsRoom, Redoing}
use Rattle.avs_receiver.specs.Held.{ReceiverHalf, ReceiverHeld, ReceiverParts, held, parts_of}
use Rattle.avs_receiver.specs.Meaning.{Finds, IsLandedFor, IsReceiverFound, entry_on, found_by, half_by, images_in, is_of, is_redone, lies_on, redone, slots_of, state_in, vols_of}
use Rattle.avs_receiver.specs.Going.{ReceiverStays}
use Rattle.avs_receiver.specs.Slots.{AreFilled}
use Rattle.avs_receiver.specs.CatchingUp.{FindsAgain, HasCaughtUp, IsStoppedSo, RedoesLanded, RestCaught, RestRedone, caught_up, found_of, lies_of}
use Rattle.avs_receiver.specs.Marking.{IsMarkNote}
use Rattle.avs_receiver.proofs.Stopped.{not_err}
use Rattle.avs_receiver.proofs.Meanings.{fits_parts, fits_stays, lies_is, part_slots, part_vols, room_stays, stored_is}
use Rattle.avs_receiver.proofs.Leavings.{none_failed, note_failed, stays_same}
use Rattle.avs_receiver.proofs.Landings.{both_on, entry_mixed, entry_none, entry_one, on_true, redone_twice}
use Rattle.avs_halves.proofs.Writings.{images_one, same_slots, same_vols}
use Rattle.avs_receiver.proofs.Applications.{contents_same, marked_contents}
use Rattle.avs_receiver.proofs.Happened.{filled_are, off_cond, off_or, on_cond}

-- ---- one note and one header lie there

pub found_is : (sound : Type 0) (h : ReceiverHeld) → IsReceiverFound sound h → (x : HalfState) → Finds (parts_of h) x → found_of x.kept h ≡ x
found_is sound h st x f = (λ i. found_by x.kept (note_same i) (header_same i) (parts_of h)) ∙ f.found
  where
    note_same : h.half.note ≡ f.note
    note_same = sym (note_at-is (stored_bytes h.below) h.half.note (stored_is h.below h.below.note h.half.note st.stored st.note)) ∙ note_at-is (stored_bytes h.below) f.note f.noted

    header_same : h.half.land.header ≡ f.header
    header_same = sym (header_at-is (codes "AVSL") refl (block_at h.half.land.disk.image 1) h.half.land.header st.landing.step.header) ∙ header_at-is (codes "AVSL") refl (block_at h.half.land.disk.image 1) f.header f.landed.header

-- ---- tests

all_four : (a b c d : Bool) → ((a && (b && c)) && d) ≡ true → (a ≡ true) × (b ≡ true) × (c ≡ true) × (d ≡ true)
all_four true true true true is = (refl, refl, refl, refl)
all_four true true true false is = absurd (cc)
all_four true true false d is = absurd (cc)
all_four true false c d is = absurd (cc)
all_four false b c d is = absurd (cc)

first_true : (a d : Bool) → (a && d) ≡ true → a ≡ true
first_true true d is = refl
first_true false d is = absurd (cc)

pub off_on : (b : Bool) → b ≡ false → b ≡ true → ⊥
off_on b off on = cc

pub cond_off : {X : Type 0} (b : Bool) (x y : X) → b ≡ false → cond b x y ≡ y
cond_off true x y off = absurd (cc)
cond_off false x y off = refl

-- a write or a copy has blocks, and a mark has none
some_len : (a b : Bool) (len : ℕ) → is_mark (cond a Write (cond b Copied Mark)) ≡ false → min (cond a 256 (cond b 64 0)) 1 ≤ len → 0 < len
some_len true b len off most = omega arith
some_len false true len off most = omega arith
some_len false false len off most = absurd (cc)

no_len : (a b : Bool) (len : ℕ) → is_mark (cond a Write (cond b Copied Mark)) ≡ true → len ≤ cond a 256 (cond b 64 0) → len ≡ 0
no_len true b len on most = absurd (cc)
no_len false true len on most = absurd (cc)
no_len false false len on most = omega arith

all_gone : (b : Bool) (due : Due) → b ≡ true → cond (is_marked (cond b Replicating Logging)) nothing_due due ≡ nothing_due
all_gone true due is = refl
all_gone false due is = absurd (cc)

-- the mark that is told then
mark_out : (a b : Bool) (x y : ℕ) → a ≡ false → y ≡ cond (a && b) x y
mark_out true b x y off = absurd (cc)
mark_out false b x y off = refl

mark_off : (a b : Bool) (x y : ℕ) → b ≡ false → y ≡ cond (a && b) x y
mark_off true true x y off = absurd (cc)
mark_off true false x y off = refl
mark_off false b x y off = refl

mark_on : (a b : Bool) (x y : ℕ) → a ≡ true → b ≡ true → x ≡ cond (a && b) x y
mark_on a b x y is on = rw (is, on) refl

-- ---- halves that have done the same place once more

pub redone_same : (n m : Note) (kept : Sets) (p place : ℕ) (a b : List Image) (vols slots : List ℕ) (due now : Due) (e : Entry) → m.session ≡ n.session → m.role ≡ n.role
    → marked_contents (is_mark e.kind) vols m.empty slots ≡ marked_contents (is_mark e.kind) vols n.empty slots
    → cond (is_mark e.kind) Replicating (state_in m) ≡ cond (is_mark e.kind) Replicating (state_in n)
    → after_entry (images_in b vols) e ≡ after_entry (images_in a vols) e
    → cond (is_mark e.kind) nothing_due now ≡ cond (is_mark e.kind) nothing_due due
    → record (applied_to (half_by m p b vols slots now kept) e) { applied = place } ≡ record (applied_to (half_by n p a vols slots due kept) e) { applied = place }
redone_same n m kept p place a b vols slots due now e number role contents state images dues = λ i. record (applied_to (half_by n p a vols slots due kept) e) {
  number = number i;
  role = role i;
  contents = contents i;
  state = state i;
  images = images i;
  applied = place;
  due = dues i;
}

-- its blocks, or the mark, are all that is to be done
blocks_redone : (n : Note) (kept : Sets) (p place : ℕ) (a b : List Image) (vols slots : List ℕ) (due : Due) (e : Entry) → is_mark e.kind ≡ false → p ≡ place → images_in b vols ≡ after_entry (images_in a vols) e
    → half_by n p b vols slots due kept ≡ record (applied_to (half_by n p a vols slots due kept) e) { applied = place }
blocks_redone n kept p place a b vols slots due e off same images = λ i. record (applied_to (half_by n p a vols slots due kept) e) {
  contents = λ set. off_or (is_mark e.kind) (nat_lt set (length vols)) ((half_by n p a vols slots due kept).contents set) off i;
  images = images i;
  state = off_cond (is_mark e.kind) Replicating (state_in n) off i;
  applied = same i;
  due = off_cond (is_mark e.kind) nothing_due due off i;
}

mark_redone : (n : Note) (kept : Sets) (p place empty mark : ℕ) (a b : List Image) (sets : List SetBits) (due : Due) (e : Entry) → is_mark e.kind ≡ true → p ≡ place → images_in b (vols_of sets) ≡ after_entry (images_in a (vols_of sets)) e
    → is_receiver n.role ≡ true → AreFilled sets n.empty empty
    → half_by (record n { state = Replicating; empty = empty; mark = mark }) p b (vols_of sets) (slots_of sets) nothing_due kept ≡ record (applied_to (half_by n p a (vols_of sets) (slots_of sets) due kept) e) { applied = place }
mark_redone n kept p place empty mark a b sets due e on same images role full = λ i. record (applied_to (half_by n p a (vols_of sets) (slots_of sets) due kept) e) {
  contents = filled_are sets (is_mark e.kind) n.empty empty on full i;
  images = images i;
  state = (sym (on_cond (is_receiver n.role) Replicating Logging role) ∙ on_cond (is_mark e.kind) Replicating (state_in n) on) i;
  applied = same i;
  due = on_cond (is_mark e.kind) nothing_due due on i;
}

-- ---- nothing is to be done

module _ (sound : Type 0) (h : ReceiverHeld) where
  pub caught_none : is_redone h.half.note h.half.land.header ≡ false → HasCaughtUp sound sound h h
  caught_none off = record {
    stays = stays_same sound h;
    session = record { number = refl; role = refl; reverse = refl; applied = refl; mark = mark_out (is_redone h.half.note h.half.land.header) (is_mark (entry_kind h.half.land.header.kind)) h.half.applied h.half.note.mark off; slots = λ slot low free. refl };
    spared = none_failed h;
    room = λ is. absurd (off_on (is_redone h.half.note h.half.land.header) off is);
    done = λ st kept. sym (cond_off (is_redone h.half.note h.half.land.header) (redone (lies_of kept h) h.half.land.header h.half.land.disk.image) (lies_of kept h) off);
    step = λ st. record { memory = st; again = λ kept is. absurd (off_on (is_redone h.half.note h.half.land.header) off is) };
  }

-- ---- something is

module _ (sound : Type 0) (below : BelowSeen) (h : ReceiverHalf) (over : IsOver below h.sets) (is : is_redone h.note h.land.header ≡ true) (room : IsRoom h.land.header (vols_of h.sets) below) where
  four : (is_receiver h.note.role ≡ true) × (not (eqb h.land.header.kind 0) ≡ true) × (eqb h.land.header.session h.note.session ≡ true) × (is_session h.note.state ≡ true)
  four = all_four (is_receiver h.note.role) (not (eqb h.land.header.kind 0)) (eqb h.land.header.session h.note.session) (is_session h.note.state) is

  its : is_of h.note h.land.header ≡ true
  its = first_true (is_of h.note h.land.header) (is_session h.note.state) is

  abbrev e : Entry
  e = entry_on h.land.header h.land.disk.image

  abbrev at_place : ℕ
  at_place = cond (is_of h.note h.land.header) h.land.header.place 0

  place_is : cond (is_of h.note h.land.header) h.land.header.place 0 ≡ h.land.header.place
  place_is = on_true (is_of h.note h.land.header) h.land.header.place 0 its

  abbrev due_before : Due
  due_before = cond (is_marked (state_in h.note)) nothing_due (due_of h.sets)

  -- the half as it lies, and with its place done once more
  abbrev before : Sets → HalfState
  before kept = half_by h.note (cond (is_of h.note h.land.header) h.land.header.place 0) below.images (vols_of h.sets) (slots_of h.sets) (cond (is_marked (state_in h.note)) nothing_due (due_of h.sets)) kept

  abbrev behind : Sets → HalfState
  behind kept = redone (half_by h.note (cond (is_of h.note h.land.header) h.land.header.place 0) below.images (vols_of h.sets) (slots_of h.sets) (cond (is_marked (state_in h.note)) nothing_due (due_of h.sets)) kept) h.land.header h.land.disk.image

  caught_is : IsReceiverFound sound (held below h) → (kept : Sets) → caught_up kept (held below h) ≡ behind kept
  caught_is st kept = on_true (is_redone h.note h.land.header) (redone (lies_of kept (held below h)) h.land.header h.land.disk.image) (lies_of kept (held below h)) is
      ∙ ap (λ (x : HalfState). redone x h.land.header h.land.disk.image) (lies_is kept h.note h.land.header below h st.bits over)

  -- by a note of the session, whatever lies below in its range
  found_so : IsReceiverFound sound (held below h) → (kept : Sets) (state : State) (empty mark : ℕ) (p : ReceiverParts) → p.land.image ≡ h.land.disk.image → is_session state ≡ true → (images : List Image) (now : Due)
      → lies_on kept (record h.note { state = state; empty = empty; mark = mark }) h.land.header p ≡ half_by (record h.note { state = state; empty = empty; mark = mark }) (cond (is_of h.note h.land.header) h.land.header.place 0) images (vols_of h.sets) (slots_of h.sets) now kept
      → marked_contents (is_mark (entry_kind h.land.header.kind)) (vols_of h.sets) empty (slots_of h.sets) ≡ marked_contents (is_mark (entry_kind h.land.header.kind)) (vols_of h.sets) h.note.empty (slots_of h.sets)
      → cond (is_mark (entry_kind h.land.header.kind)) Replicating (state_in (record h.note { state = state; empty = empty; mark = mark })) ≡ cond (is_mark (entry_kind h.land.header.kind)) Replicating (state_in h.note)
      → after_entry (images_in images (vols_of h.sets)) (entry_on h.land.header h.land.disk.image) ≡ after_entry (images_in below.images (vols_of h.sets)) (entry_on h.land.header h.land.disk.image)
      → cond (is_mark (entry_kind h.land.header.kind)) nothing_due now ≡ cond (is_mark (entry_kind h.land.header.kind)) nothing_due (cond (is_marked (state_in h.note)) nothing_due (due_of h.sets))
      → found_by kept (record h.note { state = state; empty = empty; mark = mark }) h.land.header p ≡ found_of kept (held below h)
  found_so st kept state empty mark p same session images now lies contents states puts dues = ap left_receiver (
      on_true (is_redone (record h.note { state = state; empty = empty; mark = mark }) h.land.header) (redone (lies_on kept (record h.note { state = state; empty = empty; mark = mark }) h.land.header p) h.land.header p.land.image)
      (lies_on kept (record h.note { state = state; empty = empty; mark = mark }) h.land.header p) (both_on (is_of h.note h.land.header) (is_session state) its session)
      ∙ (λ i. redone (lies i) h.land.header (same i))
      ∙ redone_same h.note (record h.note { state = state; empty = empty; mark = mark }) kept (cond (is_of h.note h.land.header) h.land.header.place 0) h.land.header.place below.images images (vols_of h.sets) (slots_of h.sets)
      (cond (is_marked (state_in h.note)) nothing_due (due_of h.sets)) now (entry_on h.land.header h.land.disk.image) refl refl contents states puts dues
      ∙ sym (caught_is st kept))

  -- ---- the volume of the entry

  len_some : IsReceiverFound sound (held below h) → is_mark (entry_kind h.land.header.kind) ≡ false → 0 < h.land.header.len
  len_some st off = some_len (eqb h.land.header.kind 1) (eqb h.land.header.kind 2) h.land.header.len off st.landing.step.header.keeps.len_some

  low_on : (a b : ℕ) → a < b → nat_lt a b ≡ true
  low_on a b low = grind (arith, nat_tests)

  there : 0 < h.land.header.len → h.land.header.set < length h.sets
  there some = subst (λ (n : ℕ). h.land.header.set < n) (length-map h.sets (λ s. s.vol)) (room.set some)

  told_vol : IsReceiverFound sound (held below h) → 0 < h.land.header.len → IsToldAt below (get_or (vols_of h.sets) h.land.header.set 0)
  told_vol st some = subst (λ (v : ℕ). IsToldAt below v) (sym (get_or-map (λ s. s.vol) h.sets h.land.header.set no_set)) (st.volumes h.land.header.set (there some))

  apart : 0 < h.land.header.len → (other : ℕ) → other < length (vols_of h.sets) → get_or (vols_of h.sets) other 0 ≡ get_or (vols_of h.sets) h.land.header.set 0 → other ≡ h.land.header.set
  apart some other low same = over.apart h.land.header.set other (there some) (subst (λ (n : ℕ). other < n) (length-map h.sets (λ s. s.vol)) low)
      (sym (get_or-map (λ s. s.vol) h.sets other no_set) ∙ same ∙ get_or-map (λ s. s.vol) h.sets h.land.header.set no_set)

  image_before : 0 < h.land.header.len → images_in below.images (vols_of h.sets) h.land.header.set ≡ get_or below.images (get_or (vols_of h.sets) h.land.header.set 0) []
  image_before some = on_true (nat_lt h.land.header.set (length (vols_of h.sets))) (get_or below.images (get_or (vols_of h.sets) h.land.header.set 0) []) [] (low_on h.land.header.set (length (vols_of h.sets)) (room.set some))

  -- ---- its blocks go below

  module _ {T E : Type 0} (new : BelowSeen) (bytes : List ℕ) (r : Result T E) (landed : AreLanded h.land bytes) (w : WritesBelow sound below (get_or (vols_of h.sets) h.land.header.set 0) h.land.header.at bytes r new) where
    over_new : IsOver new h.sets
    over_new = over_sizes below new h.sets w.sizes over

    stays_written : ReceiverStays sound (held below h) (held new h)
    stays_written = record {
      host = refl;
      queue = refl;
      land = (stays_same sound (held below h)).land;
      count = refl;
      sets = λ set. set_same (set_at h.sets set);
      labels = λ set told. refl;
      below = below_written sound below new (get_or (vols_of h.sets) h.land.header.set 0) h.land.header.at bytes r w;
    }

    lies_new : IsReceiverFound sound (held below h) → (kept : Sets) → lies_of kept (held new h) ≡ half_by h.note (cond (is_of h.note h.land.header) h.land.header.place 0) new.images (vols_of h.sets) (slots_of h.sets) (cond (is_marked (state_in h.note)) nothing_due (due_of h.sets)) kept
    lies_new st kept = lies_is kept h.note h.land.header new h st.bits over_new

  module _ {E : Type 0} (new : BelowSeen) (bytes : List ℕ) (u : Unit {0}) (off : is_mark (entry_kind h.land.header.kind) ≡ false) (landed : AreLanded h.land bytes) (w : WritesBelow {E = E} sound below (get_or (vols_of h.sets) h.land.header.set 0) h.land.header.at bytes (Ok u) new) where
    images_then : IsReceiverFound sound (held below h) → images_in new.images (vols_of h.sets) ≡ after_entry (images_in below.images (vols_of h.sets)) (entry_on h.land.header h.land.disk.image)
    images_then st = let some = len_some st off in
        images_one below.images new.images (vols_of h.sets) h.land.header.set (put (images_in below.images (vols_of h.sets) h.land.header.set) h.land.header.at (landed_blocks h.land.header h.land.disk.image)) (room.set some)
        (w.done st.sound (told_vol st some) ∙ (λ i. put (sym (image_before some) i) h.land.header.at (landed.blocks st.landing.told i)))
        (λ other ne. w.kept other ne)
        (apart some)
        ∙ entry_one (images_in below.images (vols_of h.sets)) (entry_on h.land.header h.land.disk.image)

    done_blocks : IsReceiverFound sound (held below h) → (kept : Sets) → lies_of kept (held new h) ≡ behind kept
    done_blocks st kept = lies_new new bytes (Ok u) landed w st kept
        ∙ blocks_redone h.note kept (cond (is_of h.note h.land.header) h.land.header.place 0) h.land.header.place below.images new.images (vols_of h.sets) (slots_of h.sets) (cond (is_marked (state_in h.note)) nothing_due (due_of h.sets))
        (entry_on h.land.header h.land.disk.image) off place_is (images_then st)

    pub caught_blocks : (sound_new : Type 0) → (sound → sound_new) → HasCaughtUp sound sound_new (held below h) (held new h)
    caught_blocks sound_new sounds = record {
      stays = stays_written new bytes (Ok u) landed w;
      session = record { number = refl; role = refl; reverse = refl; applied = refl; mark = mark_off (is_redone h.note h.land.header) (is_mark (entry_kind h.land.header.kind)) h.applied h.note.mark off; slots = λ slot low free. refl };
      spared = record { faults = w.cause.same; armed = w.still_armed; sets = λ set. spared_same (set_at h.sets set).bits.disk; land = spared_same h.land.disk };
      room = λ on. room;
      done = λ st kept. done_blocks st kept ∙ sym (caught_is st kept);
      step = λ st. record {
        memory = record {
          sound = sounds st.sound;
          stored = w.stored ∙ st.stored ∙ ap Some (sym w.note);
          note = subst (λ (b : List ℕ). IsNote b h.note) (sym w.note) st.note;
          volumes = λ set low. w.told (set_at h.sets set).vol (st.volumes set low);
          bits = st.bits;
          landing = record { told = st.landing.told; step = st.landing.step; fits = fits_stays h.note h.land.header (vols_of h.sets) below new w.sizes st.landing.fits; place = st.landing.place };
        };
        again = λ kept on. ap (λ (x : HalfState). redone x h.land.header h.land.disk.image) (done_blocks st kept)
            ∙ redone_twice (half_by h.note (cond (is_of h.note h.land.header) h.land.header.place 0) below.images (vols_of h.sets) (slots_of h.sets) (cond (is_marked (state_in h.note)) nothing_due (due_of h.sets)) kept) h.land.header h.land.disk.image refl
            ∙ sym (done_blocks st kept);
      };
    }

  -- there were none to write, which is the mark's alone
  pub caught_empty : (sound_new : Type 0) → is_mark (entry_kind h.land.header.kind) ≡ false → h.land.header.len ≡ 0 → HasCaughtUp sound sound_new (held below h) (held below h)
  caught_empty sound_new off empty = record {
    stays = stays_same sound (held below h);
    session = record { number = refl; role = refl; reverse = refl; applied = refl; mark = mark_off (is_redone h.note h.land.header) (is_mark (entry_kind h.land.header.kind)) h.applied h.note.mark off; slots = λ slot low free. refl };
    spared = none_failed (held below h);
    room = λ on. room;
    done = λ st kept. absurd (none (len_some st off));
    step = λ st. absurd (none (len_some st off));
  }
    where
      none : 0 < h.land.header.len → ⊥
      none some = omega (arith, some, empty)

  -- ---- or they do not

  -- they were not read
  pub unread_stopped : (why : Why) → why ≡ Fault → (land : Landing) → land ≡ record h.land { disk = record h.land.disk { faults = land.disk.faults } } → Lasts h.land.disk land.disk → Fails h.land.disk land.disk → IsStoppedSo sound (held below h) why (held below (record h { land = land }))
  unread_stopped why answer land same lasts fails = record {
    answer = answer;
    stays = record {
      host = refl;
      queue = refl;
      land = lasts;
      count = refl;
      sets = λ set. set_same (set_at h.sets set);
      labels = λ set told. refl;
      below = below_same sound below;
    };
    failed = inr (inr (record { failed = fails; below = record { faults = refl; armed = refl }; sets = λ set. spared_same (set_at h.sets set).bits.disk }));
    room = λ on. room;
    stopped = λ st x f. subst (λ (d : Landing). Finds (parts_of (held below (record h { land = d }))) x) (sym same) (record {
      note = h.note;
      header = h.land.header;
      noted = stored_is below below.note h.note st.stored st.note;
      landed = st.landing.step;
      fits = fits_parts h.note h.land.header h.sets h.sets below below refl refl st.landing.fits;
      found = found_is sound (held below h) st x f;
    });
  }

  -- a part of them was written
  pub blocks_stopped : {T E : Type 0} (why : Why) → why ≡ Fault → (new : BelowSeen) (bytes : List ℕ) (x : E) → is_mark (entry_kind h.land.header.kind) ≡ false → AreLanded h.land bytes
      → WritesBelow {T = T} sound below (get_or (vols_of h.sets) h.land.header.set 0) h.land.header.at bytes (Err x) new → IsStoppedSo sound (held below h) why (held new h)
  blocks_stopped why answer new bytes x off landed w = record {
    answer = answer;
    stays = stays_written new bytes (Err x) landed w;
    failed = inl (record { failed = record { rose = w.cause.failed; spent = w.spent }; sets = λ set. spared_same (set_at h.sets set).bits.disk; land = spared_same h.land.disk });
    room = λ on. room;
    stopped = λ st y f. record {
      note = h.note;
      header = h.land.header;
      noted = stored_is new below.note h.note (w.stored ∙ st.stored) st.note;
      landed = st.landing.step;
      fits = fits_parts h.note h.land.header h.sets h.sets below new refl w.sizes st.landing.fits;
      found = found_so st y.kept h.note.state h.note.empty h.note.mark (parts_of (held new h)) refl four.3 new.images (cond (is_marked (state_in h.note)) nothing_due (due_of h.sets)) (lies_new new bytes (Err x) landed w st y.kept) refl refl (mixed st) refl
          ∙ found_is sound (held below h) st y f;
    };
  }
    where
      mixed : IsReceiverFound sound (held below h) → after_entry (images_in new.images (vols_of h.sets)) (entry_on h.land.header h.land.disk.image) ≡ after_entry (images_in below.images (vols_of h.sets)) (entry_on h.land.header h.land.disk.image)
      mixed st = let some = len_some st off in
          ap (λ (images : Images). after_entry images (entry_on h.land.header h.land.disk.image))
          (images_one below.images new.images (vols_of h.sets) h.land.header.set (get_or new.images (get_or (vols_of h.sets) h.land.header.set 0) []) (room.set some) refl (λ other ne. w.kept other ne) (apart some))
          ∙ entry_mixed (images_in below.images (vols_of h.sets)) (entry_on h.land.header h.land.disk.image) (get_or new.images (get_or (vols_of h.sets) h.land.header.set 0) [])
          (subst (λ (img : Image). IsMix img h.land.header.at (landed_blocks h.land.header h.land.disk.image) (get_or new.images (get_or (vols_of h.sets) h.land.header.set 0) [])) (sym (image_before some))
          (subst (λ (bs : Image). IsMix (get_or below.images (get_or (vols_of h.sets) h.land.header.set 0) []) h.land.header.at bs (get_or new.images (get_or (vols_of h.sets) h.land.header.set 0) [])) (landed.blocks st.landing.told) (w.failed st.sound (told_vol st some))))

  -- ---- it is the mark

  entry_empty : IsReceiverFound sound (held below h) → is_mark (entry_kind h.land.header.kind) ≡ true → after_entry (images_in below.images (vols_of h.sets)) (entry_on h.land.header h.land.disk.image) ≡ images_in below.images (vols_of h.sets)
  entry_empty st on = entry_none (images_in below.images (vols_of h.sets)) (entry_on h.land.header h.land.disk.image)
      (length-range h.land.disk.image _ h.land.header.len ∙ no_len (eqb h.land.header.kind 1) (eqb h.land.header.kind 2) h.land.header.len on st.landing.step.header.keeps.len)

  module _ (new : BelowSeen) (empty : ℕ) (sets : List SetBits) (vols : vols_of sets ≡ vols_of h.sets) (slots : slots_of sets ≡ slots_of h.sets) where
    lies_marked : (kept : Sets) → lies_on kept (record h.note { state = Replicating; empty = empty; mark = h.applied }) h.land.header (parts_of (held new (record h { sets = sets })))
        ≡ half_by (record h.note { state = Replicating; empty = empty; mark = h.applied }) (cond (is_of h.note h.land.header) h.land.header.place 0) new.images (vols_of h.sets) (slots_of h.sets) nothing_due kept
    lies_marked kept = λ i. half_by (record h.note { state = Replicating; empty = empty; mark = h.applied }) (cond (is_of h.note h.land.header) h.land.header.place 0) new.images ((part_vols sets ∙ vols) i) ((part_slots sets ∙ slots) i)
        (all_gone (is_receiver h.note.role) (due_found new (parts_of (held new (record h { sets = sets }))).sets) four.0 i) kept

  module _ {F G : Type 0} (new : BelowSeen) (empty : ℕ) (sets : List SetBits) (u : Unit {0}) (on : is_mark (entry_kind h.land.header.kind) ≡ true) (full : AreFilled h.sets h.note.empty empty)
      (p : PutsNote {E = F} sound below (record h.note { state = Replicating; empty = empty; mark = h.applied }) (Ok u) new) (c : ChangesSets {E = G} (every h.sets) false h.sets (Ok u) sets) where
    done_mark : IsReceiverFound sound (held below h) → (kept : Sets) → lies_of kept (held new (record h { note = record h.note { state = Replicating; empty = empty; mark = h.applied }; sets = sets })) ≡ behind kept
    done_mark st kept = lies_marked new empty sets (same_vols (every h.sets) false h.sets sets (Ok u) c) (same_slots (every h.sets) false h.sets sets (Ok u) c) kept
        ∙ mark_redone h.note kept (cond (is_of h.note h.land.header) h.land.header.place 0) h.land.header.place empty h.applied below.images new.images h.sets (cond (is_marked (state_in h.note)) nothing_due (due_of h.sets))
        (entry_on h.land.header h.land.disk.image) on place_is (ap (λ (images : List Image). images_in images (vols_of h.sets)) (p.sets.images st.sound) ∙ sym (entry_empty st on)) four.0 full

    pub caught_mark : (sound_new : Type 0) → (sound → sound_new) → HasCaughtUp sound sound_new (held below h) (held new (record h { note = record h.note { state = Replicating; empty = empty; mark = h.applied }; sets = sets }))
    caught_mark sound_new sounds = record {
      stays = record {
        host = refl;
        queue = refl;
        land = (stays_same sound (held below h)).land;
        count = c.count;
        sets = sets_stay (every h.sets) false h.sets sets (Ok u) c;
        labels = λ set. (c.part set).label;
        below = below_noted sound below new p.bytes (Ok u) p.sets;
      };
      session = record { number = refl; role = refl; reverse = refl; applied = refl; mark = mark_on (is_redone h.note h.land.header) (is_mark (entry_kind h.land.header.kind)) h.applied h.note.mark is on; slots = full.others };
      spared = record { faults = p.sets.cause.same; armed = p.sets.still_armed; sets = λ set. (c.done set).spared; land = spared_same h.land.disk };
      room = λ also. room;
      done = λ st kept. done_mark st kept ∙ sym (caught_is st kept);
      step = λ st. record {
        memory = record {
          sound = sounds st.sound;
          stored = p.sets.stored (told_note below below.note st.stored) ∙ ap Some (sym p.sets.done);
          note = subst (λ (b : List ℕ). IsNote b (record h.note { state = Replicating; empty = empty; mark = h.applied })) (sym p.sets.done) p.is;
          volumes = λ set low. subst (λ (v : ℕ). IsToldAt new v) (sym (ap (λ (s : SetBits). s.vol) (c.part set).rest)) ((below_noted sound below new p.bytes (Ok u) p.sets).told st.sound (set_at h.sets set).vol (st.volumes set (omega (arith, low, c.count))));
          bits = record { told = λ set. (c.part set).lasts.told (st.bits.told set); step = λ set. (c.done set).step (st.bits.told set) (st.bits.step set) };
          landing = record {
            told = st.landing.told;
            step = st.landing.step;
            fits = subst (λ (v : List ℕ). IsLandedFor (record h.note { state = Replicating; empty = empty; mark = h.applied }) h.land.header v new) (sym (same_vols (every h.sets) false h.sets sets (Ok u) c)) (fits_marked st new p.sets.sizes);
            place = st.landing.place;
          };
        };
        again = λ kept also. ap (λ (x : HalfState). redone x h.land.header h.land.disk.image) (done_mark st kept)
            ∙ redone_twice (half_by h.note (cond (is_of h.note h.land.header) h.land.header.place 0) below.images (vols_of h.sets) (slots_of h.sets) (cond (is_marked (state_in h.note)) nothing_due (due_of h.sets)) kept) h.land.header h.land.disk.image refl
            ∙ sym (done_mark st kept);
      };
    }
      where
        fits_marked : IsReceiverFound sound (held below h) → (m : BelowSeen) → m.sizes ≡ below.sizes → IsLandedFor (record h.note { state = Replicating; empty = empty; mark = h.applied }) h.land.header (vols_of h.sets) m
        fits_marked st m sizes = record { earlier = st.landing.fits.earlier; room = λ also. room_stays h.land.header (vols_of h.sets) below m sizes room }

  -- by the note of the mark, whatever bits are left
  finds_marked : IsReceiverFound sound (held below h) → is_mark (entry_kind h.land.header.kind) ≡ true → (empty : ℕ) (bytes : List ℕ) (new : BelowSeen) (sets : List SetBits) → vols_of sets ≡ vols_of h.sets → slots_of sets ≡ slots_of h.sets
      → new.stored ≡ Some bytes → IsNote bytes (record h.note { state = Replicating; empty = empty; mark = h.applied }) → new.sizes ≡ below.sizes → new.images ≡ below.images
      → FindsAgain (parts_of (held below h)) (parts_of (held new (record h { sets = sets })))
  finds_marked st on empty bytes new sets vols slots stored noted sizes images x f = record {
    note = record h.note { state = Replicating; empty = empty; mark = h.applied };
    header = h.land.header;
    noted = stored_is new bytes (record h.note { state = Replicating; empty = empty; mark = h.applied }) stored noted;
    landed = st.landing.step;
    fits = fits_parts (record h.note { state = Replicating; empty = empty; mark = h.applied }) h.land.header h.sets sets below new vols sizes (record { earlier = st.landing.fits.earlier; room = λ also. room });
    found = found_so st x.kept Replicating empty h.applied (parts_of (held new (record h { sets = sets }))) refl refl new.images nothing_due (lies_marked new empty sets vols slots x.kept)
        (contents_same h.sets (is_mark (entry_kind h.land.header.kind)) h.note.empty empty on)
        (sym (on_cond (is_mark (entry_kind h.land.header.kind)) Replicating (state_in (record h.note { state = Replicating; empty = empty; mark = h.applied })) on) ∙ on_cond (is_mark (entry_kind h.land.header.kind)) Replicating (state_in h.note) on)
        (ap (λ (now : List Image). after_entry (images_in now (vols_of h.sets)) (entry_on h.land.header h.land.disk.image)) images)
        (sym (on_cond (is_mark (entry_kind h.land.header.kind)) nothing_due nothing_due on) ∙ on_cond (is_mark (entry_kind h.land.header.kind)) nothing_due (cond (is_marked (state_in h.note)) nothing_due (due_of h.sets)) on)
        ∙ found_is sound (held below h) st x f;
  }

  -- its note failed
  pub note_stopped : {T E : Type 0} (why : Why) → why ≡ Fault → (new : BelowSeen) (empty : ℕ) (y : E) → is_mark (entry_kind h.land.header.kind) ≡ true
      → PutsNote {T = T} sound below (record h.note { state = Replicating; empty = empty; mark = h.applied }) (Err y) new → IsStoppedSo sound (held below h) why (held new h)
  note_stopped why answer new empty y on p = record {
    answer = answer;
    stays = record {
      host = refl;
      queue = refl;
      land = (stays_same sound (held below h)).land;
      count = refl;
      sets = λ set. set_same (set_at h.sets set);
      labels = λ set told. refl;
      below = below_noted sound below new p.bytes (Err y) p.sets;
    };
    failed = inl (note_failed sound below new h p.bytes y p.sets);
    room = λ also. room;
    stopped = λ st x f. elim (p.sets.left (told_note below below.note st.stored)) [
      | inl same ↦ record {
        note = h.note;
        header = h.land.header;
        noted = stored_is new below.note h.note (same ∙ st.stored) st.note;
        landed = st.landing.step;
        fits = fits_parts h.note h.land.header h.sets h.sets below new refl p.sets.sizes st.landing.fits;
        found = found_so st x.kept h.note.state h.note.empty h.note.mark (parts_of (held new h)) refl four.3 new.images (cond (is_marked (state_in h.note)) nothing_due (due_of h.sets))
            (lies_is x.kept h.note h.land.header new h st.bits (over_sizes below new h.sets p.sets.sizes over)) refl refl
            (ap (λ (now : List Image). after_entry (images_in now (vols_of h.sets)) (entry_on h.land.header h.land.disk.image)) (p.sets.images st.sound)) refl
            ∙ found_is sound (held below h) st x f;
      }
      | inr put ↦ finds_marked st on empty p.bytes new h.sets refl refl put p.is p.sets.sizes (p.sets.images st.sound) x f
    ];
  }

  -- or some bits are left
  pub wipe_stopped : {T E G : Type 0} (why : Why) → why ≡ Fault → (new : BelowSeen) (empty : ℕ) (sets : List SetBits) (u : Unit {0}) (y : E) → is_mark (entry_kind h.land.header.kind) ≡ true
      → PutsNote {E = G} sound below (record h.note { state = Replicating; empty = empty; mark = h.applied }) (Ok u) new → ChangesSets {T = T} (every h.sets) false h.sets (Err y) sets
      → IsStoppedSo sound (held below h) why (held new (record h { note = record h.note { state = Replicating; empty = empty; mark = h.applied }; sets = sets }))
  wipe_stopped why answer new empty sets u y on p c = record {
    answer = answer;
    stays = record {
      host = refl;
      queue = refl;
      land = (stays_same sound (held below h)).land;
      count = c.count;
      sets = sets_stay (every h.sets) false h.sets sets (Err y) c;
      labels = λ set. (c.part set).label;
      below = below_noted sound below new p.bytes (Ok u) p.sets;
    };
    failed = inr (inl (record { failed = c.failed; below = record { faults = p.sets.cause.same; armed = p.sets.still_armed }; land = spared_same h.land.disk }));
    room = λ also. room;
    stopped = λ st x f. finds_marked st on empty p.bytes new sets (same_vols (every h.sets) false h.sets sets (Err y) c) (same_slots (every h.sets) false h.sets sets (Err y) c)
        (p.sets.stored (told_note below below.note st.stored)) p.is p.sets.sizes (p.sets.images st.sound) x f;
  }

  -- ---- whichever it is

  noted : {T E : Type 0} (end : BelowSeen) (note : Note) (r : Result T E) → IsMarkNote h h.applied note → PutsNote sound below note r end → PutsNote sound below (record h.note { state = Replicating; empty = note.empty; mark = h.applied }) r end
  noted end note r is p = subst (λ (n : Note). PutsNote sound below n r end) is.is p

  marked_half : (end : ReceiverHalf) (note : Note) → IsMarkNote h h.applied note → end ≡ record h { note = note; sets = end.sets } → end ≡ record h { note = record h.note { state = Replicating; empty = note.empty; mark = h.applied }; sets = end.sets }
  marked_half end note is half = half ∙ ap (λ (n : Note). record h { note = n; sets = end.sets }) is.is

  landed_half : (end : ReceiverHalf) → end ≡ record h { land = end.land } → end.land ≡ h.land → end ≡ h
  landed_half end half land = half ∙ ap (λ (l : Landing). record h { land = l }) land

  pub redo_stops : {E : Type 0} (x : E) (why : Why) → why ≡ Fault → (end : ReceiverHeld) → RedoesLanded {E = E} sound (held below h) (Err x) end → IsStoppedSo sound (held below h) why end
  redo_stops x why answer end r = elim (cases_Bool (is_mark (entry_kind h.land.header.kind))) [
    | inl marks ↦ elim (r.mark marks) [
      | inl s ↦ subst (λ (y : ReceiverHalf). IsStoppedSo sound (held below h) why (held end.below y)) (sym s.half) (note_stopped why answer end.below s.note.empty x marks (noted end.below s.note (Err x) s.is s.puts))
      | inr w ↦ subst (λ (y : ReceiverHalf). IsStoppedSo sound (held below h) why (held end.below y)) (sym (marked_half end.half w.note w.is w.half))
          (wipe_stopped why answer end.below w.note.empty end.half.sets (tt {0}) x marks (noted end.below w.note (Ok (tt {0})) w.is w.puts) w.wipes)
    ]
    | inr off ↦ elim (r.blocks off) [
      | inl asks ↦ absurd (not_err asks.answer)
      | inr (inl unread) ↦ subst (λ (z : ReceiverHeld). IsStoppedSo sound (held below h) why z) (λ i. held (sym unread.below i) (sym (r.half off) i)) (unread_stopped why answer end.half.land unread.land unread.lasts unread.fails)
      | inr (inr wrote) ↦ subst (λ (y : ReceiverHalf). IsStoppedSo sound (held below h) why (held end.below y)) (sym (landed_half end.half (r.half off) wrote.land)) (blocks_stopped why answer end.below wrote.bytes x off wrote.landed wrote.writes)
    ]
  ]

  pub redo_done : {E : Type 0} (u : Unit {0}) (sound_new : Type 0) → (sound → sound_new) → (end : ReceiverHeld) → RedoesLanded {E = E} sound (held below h) (Ok u) end → HasCaughtUp sound sound_new (held below h) end
  redo_done u sound_new sounds end r = elim (cases_Bool (is_mark (entry_kind h.land.header.kind))) [
    | inl marks ↦ elim (r.mark marks) [
      | inl s ↦ absurd (not_err s.answer)
      | inr w ↦ subst (λ (y : ReceiverHalf). HasCaughtUp sound sound_new (held below h) (held end.below y)) (sym (marked_half end.half w.note w.is w.half))
          (caught_mark end.below w.note.empty end.half.sets u marks w.is.slots (noted end.below w.note (Ok u) w.is w.puts) w.wipes sound_new sounds)
    ]
    | inr off ↦ elim (r.blocks off) [
      | inl asks ↦ subst (λ (z : ReceiverHeld). HasCaughtUp sound sound_new (held below h) z)
          (λ i. held (sym (ap (λ (q : Redoing). q.below) asks.kept) i) (sym (landed_half end.half (r.half off) (ap (λ (q : Redoing). q.land) asks.kept)) i))
          (caught_empty sound_new off asks.empty)
      | inr (inl unread) ↦ absurd (not_err unread.answer)
      | inr (inr wrote) ↦ subst (λ (y : ReceiverHalf). HasCaughtUp sound sound_new (held below h) (held end.below y)) (sym (landed_half end.half (r.half off) wrote.land))
          (caught_blocks end.below wrote.bytes u off wrote.landed wrote.writes sound_new sounds)
    ]
  ]

-- ---- what is kept besides below

pub rest_caught : {R : Type 0} (wrote : R → ℕ → ℕ → List ℕ → Bool → R → Type 0) (rest new : R) (old : ReceiverHeld) → is_redone old.half.note old.half.land.header ≡ true → RestRedone wrote rest old true new → RestCaught wrote rest old true new
rest_caught wrote rest new old is r = elim (cases_Bool (is_mark (entry_kind old.half.land.header.kind))) [
  | inl marks ↦ inl (record { same = r.mark marks; unless = λ done on. inl marks })
  | inr off ↦ elim (r.blocks off) [
    | inl none ↦ inl (record { same = none.0; unless = λ done on. inr (empty none.1) })
    | inr once ↦ inr (record { redone = is; done = true; all = λ done. refl; once = once })
  ]
]
  where
    empty : (true ≡ false) ⊎ (old.half.land.header.len ≡ 0) → old.half.land.header.len ≡ 0
    empty (inl off) = absurd (cc)
    empty (inr len) = len
