-- A place is applied, or a load finds the last one or this one.
use Rattle.std.proofs.Common.{◌≡◌, inl, inr, ℕ, ◌+◌, ◌<◌, Bool, true, false, ◌&&◌, ◌||◌, not, cond, eqb, List, [], length, map, get_or, Result, Ok, Err, Some, ◌∙◌, sym, refl, ap, subst, arith, ◌≤◌}
use Rattle.std.specs.Prelude.{nat_lt}
use Rattle.std.proofs.Math.Path.{fun_ext}
use Rattle.std.proofs.Math.ListN.{get_or-map}
use Rattle.std.proofs.lemmas.List.{length-map}
use Rattle.std.proofs.lemmas.Bool.Decides.{nat_tests}
use Rattle.avs_seg.specs.Image.{Image, put, blocks_of, IsMix}
use Rattle.avs_dev.specs.Below.{BelowSeen, WritesBelow}
use Rattle.avs_dev.proofs.Going.{lasts_same, spared_same}
use Rattle.avs_code.specs.declared.land_headers.LandHeader.{LandHeader}
use Rattle.avs_model.specs.declared.answer.Refusal.{Refusal}
use Rattle.avs_model.specs.declared.answer.Refusal.TheVariants as refusal
use Rattle.avs_code.specs.Header.{most_len}
use Rattle.avs_model.specs.declared.entry.Entry.{Entry}
use Rattle.avs_model.specs.declared.entry.EntryKind.{EntryKind}
use Rattle.avs_model.specs.declared.entry.EntryKind.TheVariants.{Write, Copied, Mark}
use Rattle.avs_mirrors.specs.Due.{Due, nothing_due}
use Rattle.avs_mirrors.specs.Entries.{Images, after_entry, is_mark, with_image}
use Rattle.avs_mirrors.specs.Half.{HalfState, Sets, State, Logging, Replicating, applied_to, is_marked, is_receiver, is_session, left_receiver}
use Rattle.avs_sync.specs.Note.{IsNote}
use Rattle.avs_sync.specs.declared.note.Note.{Note}
use Rattle.avs_halves.specs.SetBits.{SetBits, due_of, no_set, part_of, set_at}
use Rattle.avs_halves.specs.Changing.{ChangesSets, every}
use Rattle.avs_halves.specs.Writing.{PutsNote}
use Rattle.avs_land.specs.Landed.{HasLanded, IsReadable, header_for, kind_code}
use Rattle.avs_land.specs.Landing.{KeepsLanded, Landing, Lands}
use Rattle.avs_halves.specs.Over.{IsOver}
use Rattle.avs_halves.specs.Found.{due_found, is_filled}
use Rattle.avs_halves.proofs.Staying.{told_note, below_same, below_noted, below_written, sets_stay, over_changed}
use Rattle.avs_land.specs.Redo.{IsRoom}
use Rattle.avs_receiver.specs.Held.{ReceiverHalf, ReceiverParts, held, parts_of}
use Rattle.avs_receiver.specs.Meaning.{Finds, IsReceiverInStep, contents_in, entry_on, found_by, half_by, has_set, images_in, is_of, is_redone, lies_on, receiver_of, redone, slots_of, state_in, vols_of, IsLandedFor}
use Rattle.avs_receiver.specs.Applying.{CanApply, IsApplyStopped, IsNext}
use Rattle.avs_receiver.proofs.Meanings.{lies_is, lies_old, part_slots, part_vols, stored_is, fits_parts, room_stays}
use Rattle.avs_receiver.proofs.Landings.{entry_mixed, entry_same, found_landed, in_session, is_its, receives}
use Rattle.avs_halves.proofs.Writings.{images_one, same_slots, same_vols}

-- ---- a half that applies an entry, by its parts

abbrev pub marked_contents : Bool → List ℕ → ℕ → List ℕ → Sets
marked_contents mark vols empty slots set = (mark && has_set vols set) || contents_in empty slots set

pub target_same : (n m : Note) (kept : Sets) (applied place : ℕ) (a b : List Image) (vols slots : List ℕ) (due now : Due) (e : Entry) → m.session ≡ n.session → m.role ≡ n.role → place ≡ applied + 1
    → marked_contents (is_mark e.kind) vols m.empty slots ≡ marked_contents (is_mark e.kind) vols n.empty slots
    → cond (is_mark e.kind) Replicating (state_in m) ≡ cond (is_mark e.kind) Replicating (state_in n)
    → after_entry (images_in b vols) e ≡ after_entry (images_in a vols) e
    → cond (is_mark e.kind) nothing_due now ≡ cond (is_mark e.kind) nothing_due due
    → record (applied_to (half_by m place b vols slots now kept) e) { applied = place } ≡ applied_to (half_by n applied a vols slots due kept) e
target_same n m kept applied place a b vols slots due now e number role next contents state images dues = λ i. record (applied_to (half_by n applied a vols slots due kept) e) {
  number = number i;
  role = role i;
  contents = contents i;
  state = state i;
  images = images i;
  applied = next i;
  due = dues i;
}

cond_same : {X : Type 0} (b : Bool) (x y z : X) → b ≡ true → cond b x y ≡ cond b x z
cond_same true x y z on = refl
cond_same false x y z on = absurd (no on)
  where
    no : false ≡ true → ⊥
    no is = cc

-- with the mark every set has contents, whatever the note said before
filled_or : (mark there a b : Bool) (low : Bool) → mark ≡ true → there ≡ low → ((mark && there) || (low && a)) ≡ ((mark && there) || (low && b))
filled_or true true a b low on is = refl
filled_or true false a b true on is = absurd (no is)
  where
    no : false ≡ true → ⊥
    no is = cc
filled_or true false a b false on is = refl
filled_or false there a b low on is = absurd (no on)
  where
    no : false ≡ true → ⊥
    no is = cc

pub contents_same : (sets : List SetBits) (mark : Bool) (old new : ℕ) → mark ≡ true
    → marked_contents mark (vols_of sets) new (slots_of sets) ≡ marked_contents mark (vols_of sets) old (slots_of sets)
contents_same sets mark old new on = fun_ext (λ set.
    filled_or mark (nat_lt set (length (vols_of sets))) (is_filled new (get_or (slots_of sets) set 0)) (is_filled old (get_or (slots_of sets) set 0)) (nat_lt set (length (slots_of sets))) on
    (ap (λ (n : ℕ). nat_lt set n) (length-map sets (λ s. s.vol) ∙ sym (length-map sets (λ s. s.slot)))))

unmarked : (b : Bool) (due : Due) → (b ≡ true → due ≡ nothing_due) → cond b nothing_due due ≡ due
unmarked true due none = sym (none refl)
unmarked false due none = refl

-- a mark has no blocks
not_mark : (k : EntryKind) (len : ℕ) → len ≤ most_len (kind_code k) → 0 < len → is_mark k ≡ false
not_mark Write len most some = refl
not_mark Copied len most some = refl
not_mark Mark len most some = absurd (none len most some)
  where
    none : (n : ℕ) → n ≤ 0 → 0 < n → ⊥
    none n low high = omega arith

-- ---- a place

module _ (sound : Type 0) (below : BelowSeen) (h : ReceiverHalf) (place : ℕ) (e : Entry) (on : is_session (state_in h.note) ≡ true) (next : place ≡ h.applied + 1) (can : CanApply (held below h) place e) (over : IsOver below h.sets) where
  role : is_receiver h.note.role ≡ true
  role = receives h.note on

  abbrev header : LandHeader
  header = header_for h.note.session place e

  -- ---- the volume of the entry

  vol_is : get_or (vols_of h.sets) e.set 0 ≡ (set_at h.sets e.set).vol
  vol_is = get_or-map (λ s. s.vol) h.sets e.set no_set

  there_vols : is_mark e.kind ≡ false → e.set < length (vols_of h.sets)
  there_vols blocks = let there = can.set blocks in omega (arith, there, length-map h.sets (λ s. s.vol))

  apart : is_mark e.kind ≡ false → (other : ℕ) → other < length (vols_of h.sets) → get_or (vols_of h.sets) other 0 ≡ get_or (vols_of h.sets) e.set 0 → other ≡ e.set
  apart blocks other low same = over.apart e.set other (can.set blocks) (omega (arith, low, length-map h.sets (λ s. s.vol))) (sym (get_or-map (λ s. s.vol) h.sets other no_set) ∙ same ∙ vol_is)

  low_on : (a b : ℕ) → a < b → nat_lt a b ≡ true
  low_on a b low = grind (arith, nat_tests)

  pub image_before : is_mark e.kind ≡ false → images_in below.images (vols_of h.sets) e.set ≡ get_or below.images (set_at h.sets e.set).vol []
  image_before blocks = ap (λ (b : Bool). cond b (get_or below.images (get_or (vols_of h.sets) e.set 0) []) []) (low_on e.set (length (vols_of h.sets)) (there_vols blocks)) ∙ ap (λ (v : ℕ). get_or below.images v []) vol_is

  -- it has its place there
  some_blocks : 0 < length e.bytes → is_mark e.kind ≡ false
  some_blocks some = not_mark e.kind (length e.bytes) can.entry.most some

  pub room_landed : IsRoom (header_for h.note.session place e) (vols_of h.sets) below
  room_landed = record {
    set = λ some. there_vols (some_blocks some);
    there = λ some. subst (λ (v : ℕ). v < length below.sizes) (sym vol_is) (over.each e.set (can.set (some_blocks some))).there;
    inside = λ some. subst (λ (v : ℕ). e.at + length e.bytes ≤ get_or below.sizes v 0) (sym vol_is) (can.inside (some_blocks some));
  }

  pub fits_landed : (m : Note) → m.session ≡ h.note.session → (new : BelowSeen) → new.sizes ≡ below.sizes → IsLandedFor m (header_for h.note.session place e) (vols_of h.sets) new
  fits_landed m same new sizes = record {
    earlier = λ some. omega (arith, same);
    room = λ is. room_stays (header_for h.note.session place e) (vols_of h.sets) below new sizes room_landed;
  }

  -- the landing failed, and the old header stands
  module _ (land : Landing) (keeps : KeepsLanded h.land.header h.land.disk.image place land.disk.image) where
    its_place : (b : Bool) (l : ℕ) → b ≡ true → h.applied ≡ cond b l 0 → place ≡ l + 1
    its_place true l is same = next ∙ ap (λ (k : ℕ). k + 1) same
    its_place false l is same = absurd (no is)
      where
        no : false ≡ true → ⊥
        no is = cc

    first_of : (a b c d : Bool) → ((a && (b && c)) && d) ≡ true → ((a && (b && c)) ≡ true) × (b ≡ true)
    first_of true true true d is = (refl, refl)
    first_of true true false d is = absurd (no is)
      where
        no : false ≡ true → ⊥
        no is = cc
    first_of true false c d is = absurd (no is)
      where
        no : false ≡ true → ⊥
        no is = cc
    first_of false b c d is = absurd (no is)
      where
        no : false ≡ true → ⊥
        no is = cc

    same_entry : IsReceiverInStep sound (held below h) → is_redone h.note h.land.header ≡ true → entry_on h.land.header land.disk.image ≡ entry_on h.land.header h.land.disk.image
    same_entry st is =
        let f = first_of (is_receiver h.note.role) (not (eqb h.land.header.kind 0)) (eqb h.land.header.session h.note.session) (is_session h.note.state) is in
        entry_same h.land.header h.land.disk.image land.disk.image f.1 (keeps.entry (inr (inl (its_place (is_of h.note h.land.header) h.land.header.place f.0 st.memory.landing.place))))

    again_kept : (b : Bool) (kept : Sets) → IsReceiverInStep sound (held below h) → (b ≡ true → is_redone h.note h.land.header ≡ true) → (x : HalfState) → x ≡ receiver_of kept (held below h) → cond b (redone x h.land.header land.disk.image) x ≡ receiver_of kept (held below h)
    again_kept true kept st is x same = (λ i. record (applied_to (same i) (same_entry st (is refl) i)) { applied = h.land.header.place }) ∙ st.again kept (is refl)
    again_kept false kept st is x same = same

    pub finds_kept : (kept : Sets) → IsReceiverInStep sound (held below h) → Finds (parts_of (held below (record h { land = land }))) (left_receiver (receiver_of kept (held below h)))
    finds_kept kept st = record {
      note = h.note;
      header = h.land.header;
      noted = stored_is below below.note h.note st.memory.stored st.memory.note;
      landed = keeps.is;
      fits = fits_parts h.note h.land.header h.sets h.sets below below refl refl st.memory.landing.fits;
      found = ap left_receiver (again_kept (is_redone h.note h.land.header) kept st (λ is. is) (lies_on kept h.note h.land.header (parts_of (held below h))) (lies_old sound kept below below h st refl over));
    }

  -- the entry is on the volume
  module _ (land : Landing) (has : HasLanded land.disk.image (header_for h.note.session place e) (Some (record { session = h.note.session; place = place; entry = e }))) where
    -- by a note of the session, in whatever state and with whatever slots
    found_new : (kept : Sets) (state : State) (empty mark : ℕ) (p : ReceiverParts) → p.land.image ≡ land.disk.image → is_session state ≡ true
        → (images : List Image) (now : Due) → lies_on kept (record h.note { state = state; empty = empty; mark = mark }) header p ≡ half_by (record h.note { state = state; empty = empty; mark = mark }) place images (vols_of h.sets) (slots_of h.sets) now kept
        → marked_contents (is_mark e.kind) (vols_of h.sets) empty (slots_of h.sets) ≡ marked_contents (is_mark e.kind) (vols_of h.sets) h.note.empty (slots_of h.sets)
        → cond (is_mark e.kind) Replicating (state_in (record h.note { state = state; empty = empty; mark = mark })) ≡ cond (is_mark e.kind) Replicating (state_in h.note)
        → after_entry (images_in images (vols_of h.sets)) e ≡ after_entry (images_in below.images (vols_of h.sets)) e
        → cond (is_mark e.kind) nothing_due now ≡ cond (is_mark e.kind) nothing_due (due_of h.sets)
        → found_by kept (record h.note { state = state; empty = empty; mark = mark }) header p ≡ left_receiver (applied_to (receiver_of kept (held below h)) e)
    found_new kept state empty mark p same session images now lies contents states puts dues =
        found_landed kept (record h.note { state = state; empty = empty; mark = mark }) place e p role session
        (subst (λ (img : Image). HasLanded img header (Some (record { session = h.note.session; place = place; entry = e }))) (sym same) has)
        ∙ (λ i. left_receiver (record (applied_to (lies i) e) { applied = place }))
        ∙ ap left_receiver (target_same h.note (record h.note { state = state; empty = empty; mark = mark }) kept h.applied place below.images images (vols_of h.sets) (slots_of h.sets) (due_of h.sets) now e refl refl next contents states puts dues)

    on_place : cond (is_of h.note header) place 0 ≡ place
    on_place = ap (λ (b : Bool). cond b place 0) (is_its h.note place e role)

    -- what lies there by the half's own note, over other blocks below
    lies_own : (kept : Sets) → IsReceiverInStep sound (held below h) → (new : BelowSeen) → IsOver new h.sets
        → lies_on kept h.note header (parts_of (held new (record h { land = land }))) ≡ half_by h.note place new.images (vols_of h.sets) (slots_of h.sets) (due_of h.sets) kept
    lies_own kept st new over_new = lies_is kept h.note header new (record h { land = land }) st.memory.bits over_new
        ∙ (λ i. half_by h.note (on_place i) new.images (vols_of h.sets) (slots_of h.sets) (unmarked (is_marked (state_in h.note)) (due_of h.sets) st.wiped i) kept)

    -- and by the note of the mark, whatever bits are left
    lies_marked : (kept : Sets) (empty mark : ℕ) → IsReceiverInStep sound (held below h) → (new : BelowSeen) (sets : List SetBits) → vols_of sets ≡ vols_of h.sets → slots_of sets ≡ slots_of h.sets
        → lies_on kept (record h.note { state = Replicating; empty = empty; mark = mark }) header (parts_of (held new (record h { land = land; sets = sets }))) ≡ half_by (record h.note { state = Replicating; empty = empty; mark = mark }) place new.images (vols_of h.sets) (slots_of h.sets) nothing_due kept
    lies_marked kept empty mark st new sets vols slots = λ i. half_by (record h.note { state = Replicating; empty = empty; mark = mark }) (on_place i) new.images ((part_vols sets ∙ vols) i) ((part_slots sets ∙ slots) i) (all_gone (is_receiver h.note.role) (due_found new (map part_of sets)) role i) kept
      where
        all_gone : (b : Bool) (due : Due) → b ≡ true → cond (is_marked (cond b Replicating Logging)) nothing_due due ≡ nothing_due
        all_gone true due is = refl
        all_gone false due is = absurd (no is)
          where
            no : false ≡ true → ⊥
            no is = cc

    -- behind the landing, where its own note stands
    finds_own : (kept : Sets) → IsReceiverInStep sound (held below h) → (new : BelowSeen) → new.stored ≡ below.stored → new.sizes ≡ below.sizes → IsOver new h.sets → after_entry (images_in new.images (vols_of h.sets)) e ≡ after_entry (images_in below.images (vols_of h.sets)) e
        → Finds (parts_of (held new (record h { land = land }))) (left_receiver (applied_to (receiver_of kept (held below h)) e))
    finds_own kept st new stored sizes over_new puts = record {
      note = h.note;
      header = header;
      noted = stored_is new below.note h.note (stored ∙ st.memory.stored) st.memory.note;
      landed = has.is;
      fits = fits_parts h.note header h.sets h.sets new new refl refl (fits_landed h.note refl new sizes);
      found = found_new kept h.note.state h.note.empty h.note.mark (parts_of (held new (record h { land = land }))) refl (in_session h.note on) new.images (due_of h.sets) (lies_own kept st new over_new) refl refl puts refl;
    }

    -- and where that of the mark does
    finds_marked : (kept : Sets) (empty mark : ℕ) (bytes : List ℕ) → IsReceiverInStep sound (held below h) → is_mark e.kind ≡ true → (new : BelowSeen) (sets : List SetBits) → vols_of sets ≡ vols_of h.sets → slots_of sets ≡ slots_of h.sets
        → new.stored ≡ Some bytes → IsNote bytes (record h.note { state = Replicating; empty = empty; mark = mark }) → new.sizes ≡ below.sizes → new.images ≡ below.images
        → Finds (parts_of (held new (record h { land = land; sets = sets }))) (left_receiver (applied_to (receiver_of kept (held below h)) e))
    finds_marked kept empty mark bytes st marks new sets vols slots stored is sizes images = record {
      note = record h.note { state = Replicating; empty = empty; mark = mark };
      header = header;
      noted = stored_is new bytes (record h.note { state = Replicating; empty = empty; mark = mark }) stored is;
      landed = has.is;
      fits = fits_parts (record h.note { state = Replicating; empty = empty; mark = mark }) header h.sets sets new new vols refl (fits_landed (record h.note { state = Replicating; empty = empty; mark = mark }) refl new sizes);
      found = found_new kept Replicating empty mark (parts_of (held new (record h { land = land; sets = sets }))) refl refl new.images nothing_due (lies_marked kept empty mark st new sets vols slots)
          (contents_same h.sets (is_mark e.kind) h.note.empty empty marks)
          (cond_same (is_mark e.kind) Replicating (state_in (record h.note { state = Replicating; empty = empty; mark = mark })) (state_in h.note) marks)
          (ap (λ (images : List Image). after_entry (images_in images (vols_of h.sets)) e) images)
          (cond_same (is_mark e.kind) nothing_due nothing_due (due_of h.sets) marks);
    }

  -- ---- the blocks of the entry below

  pub images_put : {T E : Type 0} (new : BelowSeen) (r : Result T E) (bytes : List ℕ) → is_mark e.kind ≡ false → WritesBelow sound below (set_at h.sets e.set).vol e.at bytes r new → (image : Image) → get_or new.images (set_at h.sets e.set).vol [] ≡ image
      → images_in new.images (vols_of h.sets) ≡ with_image (images_in below.images (vols_of h.sets)) e.set image
  images_put new r bytes blocks w image is = images_one below.images new.images (vols_of h.sets) e.set image (there_vols blocks)
      (ap (λ (v : ℕ). get_or new.images v []) vol_is ∙ is)
      (λ other ne. w.kept other (λ same. ne (same ∙ sym vol_is)))
      (apart blocks)

  -- ---- the landing failed

  readable : IsReceiverInStep sound (held below h) → IsReadable h.land.disk.image
  readable st = record { header = h.land.header; is = st.memory.landing.step }

  module _ (session : ℕ) (why : Refusal) (answer : why ≡ refusal.Fault) (ours : session ≡ h.note.session) where
    heard : IsNext (held below h) session place
    heard = record { heard = record { number = ours; receiving = on }; follows = next }

    pub landing_stopped : {T E : Type 0} (land : Landing) (x : E) → Lands {T = T} h.land h.note.session place e (Err x) land → IsApplyStopped sound (held below h) session place e why (held below (record h { land = land }))
    landing_stopped land x lands = record {
      answer = answer;
      next = heard;
      stays = record {
        host = refl;
        queue = refl;
        land = lands.goes.lasts;
        count = refl;
        sets = λ set. record { vol = refl; slot = refl; segs = refl; disk = lasts_same (set_at h.sets set).bits.disk };
        labels = λ set told. refl;
        below = below_same sound below;
      };
      failed = inr (inr (record { failed = lands.goes.failed; below = record { faults = refl; armed = refl }; sets = λ set. spared_same (set_at h.sets set).bits.disk }));
      stopped = λ st kept. elim (lands.failed st.memory.landing.told h.land.header st.memory.landing.step) [
        | inl keeps ↦ inl (finds_kept land keeps kept st)
        | inr has ↦ inr (finds_own land has kept st below refl refl over refl)
      ];
    }

    -- ---- it landed, and what it does below failed

    module _ {E : Type 0} (land : Landing) (u : Unit {0}) (lands : Lands {E = E} h.land h.note.session place e (Ok u) land) where
      pub has_landed : IsReceiverInStep sound (held below h) → HasLanded land.disk.image (header_for h.note.session place e) (Some (record { session = h.note.session; place = place; entry = e }))
      has_landed st = lands.done st.memory.landing.told (readable st)

      pub blocks_stopped : {T F : Type 0} (new : BelowSeen) (x : F) (bytes : List ℕ) → is_mark e.kind ≡ false → blocks_of bytes ≡ e.bytes → WritesBelow {T = T} sound below (set_at h.sets e.set).vol e.at bytes (Err x) new
          → IsApplyStopped sound (held below h) session place e why (held new (record h { land = land }))
      blocks_stopped new x bytes blocks same w = record {
        answer = answer;
        next = heard;
        stays = record {
          host = refl;
          queue = refl;
          land = lands.goes.lasts;
          count = refl;
          sets = λ set. record { vol = refl; slot = refl; segs = refl; disk = lasts_same (set_at h.sets set).bits.disk };
          labels = λ set told. refl;
          below = below_written sound below new (set_at h.sets e.set).vol e.at bytes (Err x) w;
        };
        failed = inl (record { failed = record { rose = w.cause.failed; spent = w.spent }; sets = λ set. spared_same (set_at h.sets set).bits.disk; land = lands.goes.done });
        stopped = λ st kept. inr (finds_own land (has_landed st) kept st new w.stored w.sizes over_new (mixed st));
      }
        where
          over_new : IsOver new h.sets
          over_new = over_changed below new h.sets h.sets w.sizes refl (λ set. record { vol = refl; slot = refl; segs = refl; disk = lasts_same (set_at h.sets set).bits.disk }) over

          mixed : IsReceiverInStep sound (held below h) → after_entry (images_in new.images (vols_of h.sets)) e ≡ after_entry (images_in below.images (vols_of h.sets)) e
          mixed st =
              ap (λ (images : Images). after_entry images e) (images_put new (Err x) bytes blocks w (get_or new.images (set_at h.sets e.set).vol []) refl)
              ∙ entry_mixed (images_in below.images (vols_of h.sets)) e (get_or new.images (set_at h.sets e.set).vol [])
              (subst (λ (img : Image). IsMix img e.at e.bytes (get_or new.images (set_at h.sets e.set).vol [])) (sym (image_before blocks))
              (subst (λ (bs : Image). IsMix (get_or below.images (set_at h.sets e.set).vol []) e.at bs (get_or new.images (set_at h.sets e.set).vol [])) same (w.failed st.memory.sound (st.memory.volumes e.set (can.set blocks)))))

      pub note_stopped : {T F : Type 0} (new : BelowSeen) (x : F) (empty mark : ℕ) → is_mark e.kind ≡ true → PutsNote {T = T} sound below (record h.note { state = Replicating; empty = empty; mark = mark }) (Err x) new
          → IsApplyStopped sound (held below h) session place e why (held new (record h { land = land }))
      note_stopped new x empty mark marks p = record {
        answer = answer;
        next = heard;
        stays = record {
          host = refl;
          queue = refl;
          land = lands.goes.lasts;
          count = refl;
          sets = λ set. record { vol = refl; slot = refl; segs = refl; disk = lasts_same (set_at h.sets set).bits.disk };
          labels = λ set told. refl;
          below = below_noted sound below new p.bytes (Err x) p.sets;
        };
        failed = inl (record { failed = record { rose = p.sets.cause.failed; spent = p.sets.spent }; sets = λ set. spared_same (set_at h.sets set).bits.disk; land = lands.goes.done });
        stopped = λ st kept. inr (elim (p.sets.left (told_note below below.note st.memory.stored)) [
          | inl same ↦ finds_own land (has_landed st) kept st new same p.sets.sizes over_new (ap (λ (images : List Image). after_entry (images_in images (vols_of h.sets)) e) (p.sets.images st.memory.sound))
          | inr put ↦ finds_marked land (has_landed st) kept empty mark p.bytes st marks new h.sets refl refl put p.is p.sets.sizes (p.sets.images st.memory.sound)
        ]);
      }
        where
          over_new : IsOver new h.sets
          over_new = over_changed below new h.sets h.sets p.sets.sizes refl (λ set. record { vol = refl; slot = refl; segs = refl; disk = lasts_same (set_at h.sets set).bits.disk }) over

      pub wipe_stopped : {T F G : Type 0} (new : BelowSeen) (x : F) (empty mark : ℕ) (sets : List SetBits) → is_mark e.kind ≡ true → PutsNote {E = G} sound below (record h.note { state = Replicating; empty = empty; mark = mark }) (Ok u) new
          → ChangesSets {T = T} (every h.sets) false h.sets (Err x) sets
          → IsApplyStopped sound (held below h) session place e why (held new (record h { land = land; note = record h.note { state = Replicating; empty = empty; mark = mark }; sets = sets }))
      wipe_stopped new x empty mark sets marks p c = record {
        answer = answer;
        next = heard;
        stays = record {
          host = refl;
          queue = refl;
          land = lands.goes.lasts;
          count = c.count;
          sets = sets_stay (every h.sets) false h.sets sets (Err x) c;
          labels = λ set. (c.part set).label;
          below = below_noted sound below new p.bytes (Ok u) p.sets;
        };
        failed = inr (inl (record { failed = c.failed; below = record { faults = p.sets.cause.same; armed = p.sets.still_armed }; land = lands.goes.done }));
        stopped = λ st kept. inr (finds_marked land (has_landed st) kept empty mark p.bytes st marks new sets (same_vols (every h.sets) false h.sets sets (Err x) c) (same_slots (every h.sets) false h.sets sets (Err x) c)
            (p.sets.stored (told_note below below.note st.memory.stored)) p.is p.sets.sizes (p.sets.images st.memory.sound));
      }
