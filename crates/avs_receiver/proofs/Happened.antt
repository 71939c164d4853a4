-- A place that was applied, whole.
use Rattle.std.proofs.Common.{◌≡◌, inl, inr, ℕ, ◌+◌, ◌<◌, Bool, true, false, ◌&&◌, ◌||◌, cond, List, length, get_or, Ok, None, Some, ◌∙◌, sym, refl, ap, subst, arith}
use Rattle.std.specs.Prelude.{nat_lt}
use Rattle.std.proofs.Math.Path.{fun_ext}
use Rattle.std.proofs.Math.ListN.{get_or-map}
use Rattle.std.proofs.lemmas.List.{length-map}
use Rattle.std.proofs.lemmas.Bool.{cases_Bool}
use Rattle.std.proofs.lemmas.Bool.Decides.{nat_tests}
use Rattle.avs_seg.specs.Image.{Image, put, blocks_of, is_inside}
use Rattle.avs_dev.specs.Below.{BelowSeen, IsToldAt, WritesBelow}
use Rattle.avs_dev.proofs.Going.{lasts_same, spared_same}
use Rattle.avs_bits.specs.BitSet.{set_of}
use Rattle.avs_code.specs.declared.land_headers.LandHeader.{LandHeader}
use Rattle.avs_model.specs.declared.entry.Entry.{Entry}
use Rattle.avs_model.specs.declared.entry.EntryKind.{EntryKind}
use Rattle.avs_model.specs.declared.entry.EntryKind.TheVariants.{Write, Copied, Mark}
use Rattle.avs_code.specs.Header.{most_len}
use Rattle.avs_mirrors.specs.Due.{Due, nothing_due}
use Rattle.avs_mirrors.specs.Entries.{after_entry, is_mark}
use Rattle.avs_mirrors.specs.Half.{HalfState, Sets, Logging, Replicating, applied_to, is_receiver, is_session}
use Rattle.avs_sync.specs.Note.{IsNote}
use Rattle.avs_sync.specs.declared.note.Note.{Note}
use Rattle.avs_halves.specs.SetBits.{SetBits, due_of, no_set, set_at}
use Rattle.avs_halves.specs.Changing.{ChangesSets, every}
use Rattle.avs_halves.specs.Writing.{PutsNote}
use Rattle.avs_land.specs.Landed.{HasLanded, IsLanding, header_for, kind_code}
use Rattle.avs_land.specs.Landing.{Landing, Lands}
use Rattle.avs_halves.specs.Over.{IsOver}
use Rattle.avs_halves.specs.Found.{is_filled}
use Rattle.avs_halves.proofs.Staying.{told_note, below_noted, below_written, sets_stay}
use Rattle.avs_halves.proofs.Lying.{below_is}
use Rattle.avs_receiver.specs.Held.{ReceiverHalf, held}
use Rattle.avs_receiver.specs.Meaning.{IsReceiverInStep, contents_in, half_by, has_set, images_in, is_of, receiver_of, redone, slots_of, state_in, vols_of, IsLandedFor}
use Rattle.avs_receiver.specs.Slots.{AreFilled}
use Rattle.avs_receiver.specs.Applying.{CanApply, IsApplied}
use Rattle.avs_receiver.proofs.Landings.{applied_twice, entry_is, entry_none, entry_one, is_its, receives}
use Rattle.avs_halves.proofs.Writings.{due_one, same_slots, same_vols}
use Rattle.avs_receiver.proofs.Applications.{image_before, images_put, marked_contents, fits_landed}

-- ---- what a half is that has applied an entry

pub off_or : (mark a b : Bool) → mark ≡ false → b ≡ ((mark && a) || b)
off_or true a b off = absurd (no off)
  where
    no : true ≡ false → ⊥
    no is = cc
off_or false a b off = refl

pub off_cond : {X : Type 0} (mark : Bool) (x y : X) → mark ≡ false → y ≡ cond mark x y
off_cond true x y off = absurd (no off)
  where
    no : true ≡ false → ⊥
    no is = cc
off_cond false x y off = refl

pub on_cond : {X : Type 0} (mark : Bool) (x y : X) → mark ≡ true → x ≡ cond mark x y
on_cond true x y on = refl
on_cond false x y on = absurd (no on)
  where
    no : false ≡ true → ⊥
    no is = cc

-- the blocks of a write or a copy
pub blocks_applied : (n : Note) (kept : Sets) (applied place : ℕ) (a b : List Image) (vols slots : List ℕ) (due : Due) (e : Entry) → is_mark e.kind ≡ false → place ≡ applied + 1 → images_in b vols ≡ after_entry (images_in a vols) e
    → half_by n place b vols slots due kept ≡ applied_to (half_by n applied a vols slots due kept) e
blocks_applied n kept applied place a b vols slots due e off next images = λ i. record (applied_to (half_by n applied a vols slots due kept) e) {
  contents = λ set. off_or (is_mark e.kind) (has_set vols set) (contents_in n.empty slots set) off i;
  images = images i;
  state = off_cond (is_mark e.kind) Replicating (state_in n) off i;
  applied = next i;
  due = off_cond (is_mark e.kind) nothing_due due off i;
}

-- the mark
filled_all : (mark there low a b : Bool) → mark ≡ true → there ≡ low → (low ≡ true → b ≡ true) → (low && b) ≡ ((mark && there) || (low && a))
filled_all true true true a b on is full = full refl
filled_all true false true a b on is full = absurd (no is)
  where
    no : false ≡ true → ⊥
    no is = cc
filled_all true true false a b on is full = absurd (no is)
  where
    no : true ≡ false → ⊥
    no is = cc
filled_all true false false a b on is full = refl
filled_all false there low a b on is full = absurd (no on)
  where
    no : false ≡ true → ⊥
    no is = cc

pub filled_are : (sets : List SetBits) (mark : Bool) (old new : ℕ) → mark ≡ true → AreFilled sets old new
    → contents_in new (slots_of sets) ≡ marked_contents mark (vols_of sets) old (slots_of sets)
filled_are sets mark old new on full = fun_ext (λ set.
    filled_all mark (nat_lt set (length (vols_of sets))) (nat_lt set (length (slots_of sets))) (is_filled old (get_or (slots_of sets) set 0)) (is_filled new (get_or (slots_of sets) set 0)) on
    (ap (λ (n : ℕ). nat_lt set n) (length-map sets (λ s. s.vol) ∙ sym (length-map sets (λ s. s.slot))))
    (λ low. ap (λ (slot : ℕ). is_filled new slot) (get_or-map (λ s. s.slot) sets set no_set) ∙ full.sets_are set (subst (λ (n : ℕ). set < n) (length-map sets (λ s. s.slot)) (below_is set (length (slots_of sets)) low))))

pub mark_applied : (n : Note) (kept : Sets) (applied place empty mark : ℕ) (a b : List Image) (sets : List SetBits) (e : Entry) → is_mark e.kind ≡ true → place ≡ applied + 1 → images_in b (vols_of sets) ≡ after_entry (images_in a (vols_of sets)) e
    → is_receiver n.role ≡ true → AreFilled sets n.empty empty
    → half_by (record n { state = Replicating; empty = empty; mark = mark }) place b (vols_of sets) (slots_of sets) nothing_due kept ≡ applied_to (half_by n applied a (vols_of sets) (slots_of sets) (due_of sets) kept) e
mark_applied n kept applied place empty mark a b sets e on next images role full = λ i. record (applied_to (half_by n applied a (vols_of sets) (slots_of sets) (due_of sets) kept) e) {
  contents = filled_are sets (is_mark e.kind) n.empty empty on full i;
  images = images i;
  state = (sym (on_cond (is_receiver n.role) Replicating Logging role) ∙ on_cond (is_mark e.kind) Replicating (state_in n) on) i;
  applied = next i;
  due = on_cond (is_mark e.kind) nothing_due (due_of sets) on i;
}

-- its bits are wiped
gone_one : (low was now : Bool) (seg segs : ℕ) → low ≡ nat_lt seg segs → now ≡ cond (is_inside 0 segs seg) false was → due_one (low && now) ≡ None
gone_one low was now seg segs is wiped = elim (cases_Bool (nat_lt seg segs)) [
  | inl below ↦ let inside : is_inside 0 segs seg ≡ true = grind (arith, nat_tests) in rw (wiped, inside) (none low)
  | inr above ↦ rw (is, above) refl
]
  where
    none : (b : Bool) → due_one (b && false) ≡ None
    none true = refl
    none false = refl

pub wiped_are : {T E : Type 0} (old new : List SetBits) (u : T) → ChangesSets {E = E} (every old) false old (Ok u) new → due_of new ≡ nothing_due
wiped_are old new u c = fun_ext (λ set. fun_ext (λ seg.
    gone_one (nat_lt seg (set_at new set).bits.segs) (set_of (set_at old set).bits seg) (set_of (set_at new set).bits seg) seg (set_at old set).bits.segs
    (ap (λ (s : SetBits). nat_lt seg s.bits.segs) (c.part set).rest) ((c.done set).memory seg)))

mark_none : (k : EntryKind) → is_mark k ≡ true → most_len (kind_code k) ≡ 0
mark_none Write on = absurd (cc)
mark_none Copied on = absurd (cc)
mark_none Mark on = refl

-- ---- a place that was applied

module _ (sound sound_new : Type 0) (sounds : sound → sound_new) (below : BelowSeen) (h : ReceiverHalf) (place : ℕ) (e : Entry) (on : is_session (state_in h.note) ≡ true) (next : place ≡ h.applied + 1) (can : CanApply (held below h) place e) (over : IsOver below h.sets)
    {E : Type 0} (land : Landing) (u : Unit {0}) (lands : Lands {E = E} h.land h.note.session place e (Ok u) land) where
  landed : IsReceiverInStep sound (held below h) → HasLanded land.disk.image (header_for h.note.session place e) (Some (record { session = h.note.session; place = place; entry = e }))
  landed st = lands.done st.memory.landing.told (record { header = h.land.header; is = st.memory.landing.step })

  -- by a note of the session the applied place is that of the landed entry, which has its place below; done once more it changes
  -- nothing
  place_then : (m : Note) → m.session ≡ h.note.session → is_receiver m.role ≡ true → place ≡ cond (is_of m land.header) land.header.place 0
  place_then m same role = subst (λ (l : LandHeader). place ≡ cond (is_of m l) l.place 0) (sym lands.header)
      (subst (λ (k : ℕ). place ≡ cond (is_of m (header_for k place e)) place 0) same (sym (ap (λ (b : Bool). cond b place 0) (is_its m place e role))))

  fits_then : (m : Note) → m.session ≡ h.note.session → (new : BelowSeen) → new.sizes ≡ below.sizes → IsLandedFor m land.header (vols_of h.sets) new
  fits_then m same new sizes = subst (λ (l : LandHeader). IsLandedFor m l (vols_of h.sets) new) (sym lands.header) (fits_landed sound below h place e on next can over m same new sizes)

  again_then : (kept : Sets) → IsReceiverInStep sound (held below h) → (y : HalfState) → y ≡ applied_to (receiver_of kept (held below h)) e → redone y land.header land.disk.image ≡ y
  again_then kept st y is =
      (λ i. redone (is i) (lands.header i) land.disk.image)
      ∙ (λ i. record (applied_to (applied_to (receiver_of kept (held below h)) e) (entry_is h.note.session place e land.disk.image (landed st) i)) { applied = next i })
      ∙ applied_twice (receiver_of kept (held below h)) e refl
      ∙ sym is

  -- a write or a copy
  module _ {F : Type 0} (new : BelowSeen) (bytes : List ℕ) (off : is_mark e.kind ≡ false) (same : blocks_of bytes ≡ e.bytes) (w : WritesBelow {E = F} sound below (set_at h.sets e.set).vol e.at bytes (Ok u) new) where
    images_then : IsReceiverInStep sound (held below h) → images_in new.images (vols_of h.sets) ≡ after_entry (images_in below.images (vols_of h.sets)) e
    images_then st =
        images_put sound below h place e on next can over new (Ok u) bytes off w (put (images_in below.images (vols_of h.sets) e.set) e.at e.bytes)
        (w.done st.memory.sound (st.memory.volumes e.set (can.set off)) ∙ (λ i. put (sym (image_before sound below h place e on next can over off) i) e.at (same i)))
        ∙ entry_one (images_in below.images (vols_of h.sets)) e

    blocks_then : (kept : Sets) → IsReceiverInStep sound (held below h) → receiver_of kept (held new (record h { land = land; applied = place })) ≡ applied_to (receiver_of kept (held below h)) e
    blocks_then kept st = blocks_applied h.note kept h.applied place below.images new.images (vols_of h.sets) (slots_of h.sets) (due_of h.sets) e off next (images_then st)

    pub blocks_are : IsApplied sound sound_new (held below h) place e (held new (record h { land = land; applied = place }))
    blocks_are = record {
      next = next;
      stays = record {
        host = refl;
        queue = refl;
        land = lands.goes.lasts;
        count = refl;
        sets = λ set. record { vol = refl; slot = refl; segs = refl; disk = lasts_same (set_at h.sets set).bits.disk };
        labels = λ set told. refl;
        below = below_written sound below new (set_at h.sets e.set).vol e.at bytes (Ok u) w;
      };
      session = record { number = refl; role = refl; reverse = refl; applied = refl; mark = off_cond (is_mark e.kind) place h.note.mark off; slots = λ slot low free. refl };
      spared = record { faults = w.cause.same; armed = w.still_armed; sets = λ set. spared_same (set_at h.sets set).bits.disk; land = lands.goes.done };
      done = λ st kept. blocks_then kept st;
      step = λ st. record {
        memory = record {
          sound = sounds st.memory.sound;
          stored = w.stored ∙ st.memory.stored ∙ ap Some (sym w.note);
          note = subst (λ (b : List ℕ). IsNote b h.note) (sym w.note) st.memory.note;
          volumes = λ set low. w.told (set_at h.sets set).vol (st.memory.volumes set low);
          bits = st.memory.bits;
          landing = record {
            told = lands.goes.lasts.told st.memory.landing.told;
            step = subst (λ (l : LandHeader). IsLanding land.disk.image l) (sym lands.header) (landed st).is;
            fits = fits_then h.note refl new w.sizes;
            place = place_then h.note refl (receives h.note on);
          };
        };
        again = λ kept is. again_then kept st (receiver_of kept (held new (record h { land = land; applied = place }))) (blocks_then kept st);
        wiped = st.wiped;
      };
    }

  -- the mark
  module _ {F G : Type 0} (new : BelowSeen) (empty : ℕ) (sets : List SetBits) (marks : is_mark e.kind ≡ true) (full : AreFilled h.sets h.note.empty empty)
      (p : PutsNote {E = F} sound below (record h.note { state = Replicating; empty = empty; mark = place }) (Ok u) new) (c : ChangesSets {E = G} (every h.sets) false h.sets (Ok u) sets) where
    images_marked : sound → images_in new.images (vols_of h.sets) ≡ after_entry (images_in below.images (vols_of h.sets)) e
    images_marked s = ap (λ (images : List Image). images_in images (vols_of h.sets)) (p.sets.images s)
        ∙ sym (entry_none (images_in below.images (vols_of h.sets)) e (let m = can.entry.most in let z = mark_none e.kind marks in omega (arith, m, z)))

    mark_then : (kept : Sets) → sound → receiver_of kept (held new (record h { land = land; note = record h.note { state = Replicating; empty = empty; mark = place }; sets = sets; applied = place })) ≡ applied_to (receiver_of kept (held below h)) e
    mark_then kept s =
        (λ i. half_by (record h.note { state = Replicating; empty = empty; mark = place }) place new.images (same_vols (every h.sets) false h.sets sets (Ok u) c i) (same_slots (every h.sets) false h.sets sets (Ok u) c i) (wiped_are h.sets sets u c i) kept)
        ∙ mark_applied h.note kept h.applied place empty place below.images new.images h.sets e marks next (images_marked s) (receives h.note on) full

    pub mark_is : IsApplied sound sound_new (held below h) place e (held new (record h { land = land; note = record h.note { state = Replicating; empty = empty; mark = place }; sets = sets; applied = place }))
    mark_is = record {
      next = next;
      stays = record {
        host = refl;
        queue = refl;
        land = lands.goes.lasts;
        count = c.count;
        sets = sets_stay (every h.sets) false h.sets sets (Ok u) c;
        labels = λ set. (c.part set).label;
        below = below_noted sound below new p.bytes (Ok u) p.sets;
      };
      session = record { number = refl; role = refl; reverse = refl; applied = refl; mark = on_cond (is_mark e.kind) place h.note.mark marks; slots = full.others };
      spared = record { faults = p.sets.cause.same; armed = p.sets.still_armed; sets = λ set. (c.done set).spared; land = lands.goes.done };
      done = λ st kept. mark_then kept st.memory.sound;
      step = λ st. record {
        memory = record {
          sound = sounds st.memory.sound;
          stored = p.sets.stored (told_note below below.note st.memory.stored) ∙ ap Some (sym p.sets.done);
          note = subst (λ (b : List ℕ). IsNote b (record h.note { state = Replicating; empty = empty; mark = place })) (sym p.sets.done) p.is;
          volumes = λ set low. subst (λ (v : ℕ). IsToldAt new v) (sym (ap (λ (s : SetBits). s.vol) (c.part set).rest)) ((below_noted sound below new p.bytes (Ok u) p.sets).told st.memory.sound (set_at h.sets set).vol (st.memory.volumes set (omega (arith, low, c.count))));
          bits = record { told = λ set. (c.part set).lasts.told (st.memory.bits.told set); step = λ set. (c.done set).step (st.memory.bits.told set) (st.memory.bits.step set) };
          landing = record {
            told = lands.goes.lasts.told st.memory.landing.told;
            step = subst (λ (l : LandHeader). IsLanding land.disk.image l) (sym lands.header) (landed st).is;
            fits = subst (λ (v : List ℕ). IsLandedFor (record h.note { state = Replicating; empty = empty; mark = place }) land.header v new) (sym (same_vols (every h.sets) false h.sets sets (Ok u) c))
                (fits_then (record h.note { state = Replicating; empty = empty; mark = place }) refl new p.sets.sizes);
            place = place_then (record h.note { state = Replicating; empty = empty; mark = place }) refl (receives h.note on);
          };
        };
        again = λ kept is. again_then kept st (receiver_of kept (held new (record h { land = land; note = record h.note { state = Replicating; empty = empty; mark = place }; sets = sets; applied = place }))) (mark_then kept st.memory.sound);
        wiped = λ is. wiped_are h.sets sets u c;
      };
    }
