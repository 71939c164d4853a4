-- A sender takes a write: what it stands for then, and what is found where a disk failed.
use Rattle.std.proofs.Common.{◌≡◌, ◌≢◌, ◌⊎◌, inl, inr, ℕ, ◌+◌, ◌/◌, ◌<◌, ◌^◌, Bool, true, false, ◌&&◌, ◌||◌, cond, eqb, List, [], length, get_or, Result, Ok, Err, OnOk, OnErr, Option, None, Some, is_some, ◌∙◌, sym, refl, ap, subst, arith}
use Rattle.std.specs.Prelude.{nat_lt}
use Rattle.std.proofs.Math.Path.{fun_ext}
use Rattle.std.proofs.lemmas.Bool.{cases_Bool, eqb-true, eq-eqb}
use Rattle.std.proofs.lemmas.Bool.Decides.{nat_tests}
use Rattle.avs_seg.specs.Image.{Image, IsMix, blocks_of, put}
use Rattle.avs_seg.proofs.Bytes.{length-blocks_of}
use Rattle.avs_dev.specs.Seen.{IsSpared}
use Rattle.avs_dev.specs.Below.{BelowSeen, IsRangeOf, IsToldAt, WritesBelow}
use Rattle.avs_model.specs.declared.answer.Refusal.TheVariants as refusal
use Rattle.avs_mqueue.specs.Queue.{Queue, Pushes, full_of, is_full, is_full_for}
use Rattle.avs_model.specs.declared.entry.Entry.{Entry}
use Rattle.avs_model.specs.declared.entry.Full.{Full}
use Rattle.avs_model.specs.declared.answer.Refusal.{Refusal}
use Rattle.avs_mirrors.specs.Due.{Due, Keys, noted, placed_due, zeros}
use Rattle.avs_mirrors.specs.Entries.{Images, after_entry, touches, with_image}
use Rattle.avs_mirrors.specs.Half.{State, Logging, Syncing, Receiving, Replicating, Queuing, is_session, no_sets, with_place, with_set, with_write}
use Rattle.avs_sync.specs.Note.{IsNote}
use Rattle.avs_sync.specs.Session.{left, placed}
use Rattle.avs_sync.specs.declared.note.Note.{Note}
use Rattle.avs_sync.specs.declared.session.Session.{Session}
use Rattle.avs_halves.specs.SetBits.{AreInStep, SetBits, disk_at, has_bit, set_at}
use Rattle.avs_halves.specs.Changing.{ChangesSets}
use Rattle.avs_halves.specs.Found.{is_filled}
use Rattle.avs_halves.specs.Going.{BelowStays, SetStays}
use Rattle.avs_halves.specs.Over.{IsOver}
use Rattle.avs_halves.specs.Writing.{IsRangeOfSet, WritesNoted, touched}
use Rattle.avs_halves.proofs.Lying.{below_is, part_is, there_is}
use Rattle.avs_halves.proofs.Writings.{touched_are, with_same}
use Rattle.avs_halves.proofs.Staying.{below_same, below_written, sets_stay}
use Rattle.avs_sender.specs.Held.{SenderHalf, SetPlaces, held, parts_of}
use Rattle.avs_sender.specs.Going.{NoneFailed, SenderStays}
use Rattle.avs_sender.specs.Learning.{IsStopped, half_with, half_stopped}
use Rattle.avs_sender.specs.Meaning.{IsSenderInStep, due_of, found_by, found_of, freeing_place, images_found, places_at, sender_of}
use Rattle.avs_sender.specs.Beginning.{FindsPartNoted}
use Rattle.avs_sender.specs.Placing.{HasPlaced, HasRoom, IsEntryOver, PlacesInPart}
use Rattle.avs_sender.specs.Admitting.{AdmitsLocal, AdmitsPlaced, FindsTorn, HasNoEntry, HasNoRoom, IsAdmitStopped, IsPlaced, IsWritten, MayPlace, MayWrite, half_with_bits, write_of}
use Rattle.avs_sender.proofs.Arming.{with_sets}
use Rattle.avs_sender.proofs.Founds.{found_then}
use Rattle.avs_sender.proofs.Meanings.{again_is, images_in}
use Rattle.avs_sender.proofs.Noted.{AreInside, found_all, found_changed, found_some, some_keys, some_within, step_changed, zero_due}
use Rattle.avs_sender.proofs.PlacedWrites.{has_noted, touches_inside}

-- ---- the segments of a write

pub keys_are : (set at : ℕ) (bytes : List ℕ) → touched set at (length bytes) ≡ touches (write_of set at bytes)
keys_are set at bytes = touched_are set at (blocks_of bytes) (length bytes / 512) (length-blocks_of bytes)

-- its range is one of its set
pub entry_over : (below : BelowSeen) (h : SenderHalf) (set at : ℕ) (bytes : List ℕ) → IsOver below h.sets → set < length h.sets → IsRangeOf below (set_at h.sets set).vol at (length bytes) → IsEntryOver h (write_of set at bytes) at (length bytes / 512)
entry_over below h set at bytes over there range = let v = over.each set there in record {
  there = there;
  at_is = refl;
  count = length-blocks_of bytes;
  some = omega (arith, range.some, range.whole);
  inside = omega (arith, range.inside, v.segs);
  small = omega (arith, range.inside, v.small);
}

pub range_of_set : (below : BelowSeen) (sets : List SetBits) (set at len : ℕ) → IsOver below sets → set < length sets → IsRangeOf below (set_at sets set).vol at len → IsRangeOfSet below (set_at sets set) at len
range_of_set below sets set at len over there range = let v = over.each set there in record {
  range = range;
  small = omega (arith, range.inside, v.small);
  segs = v.segs;
}

-- ---- images of which one has changed

low_on : (a b : ℕ) → a < b → nat_lt a b ≡ true
low_on a b low = grind (arith, nat_tests)

module _ {T E : Type 0} (keys : Keys) (on : Bool) (sets new_sets : List SetBits) (r : Result T E) (c : ChangesSets keys on sets r new_sets) (old new : List Image) (set : ℕ) (image : Image) (there : set < length sets)
    (is : get_or new (set_at sets set).vol [] ≡ image) (others : (other : ℕ) → other ≢ (set_at sets set).vol → get_or new other [] ≡ get_or old other [])
    (apart : (other : ℕ) → other < length sets → (set_at sets other).vol ≡ (set_at sets set).vol → other ≡ set) where
  differs : (t : ℕ) → eqb t set ≡ false → t < length sets → (set_at sets t).vol ≢ (set_at sets set).vol
  differs t isnt low same = no (eqb t set) (eq-eqb t set (apart t low same)) isnt
    where
      no : (b : Bool) → b ≡ true → b ≡ false → ⊥
      no b is isnt = cc

  of_new : (t : ℕ) → images_in new_sets new t ≡ images_in sets new t
  of_new t = λ i. cond (nat_lt t (c.count i)) (get_or new ((sets_stay keys on sets new_sets r c t).vol i) []) []

  at : (t : ℕ) → images_in sets new t ≡ cond (eqb t set) image (images_in sets old t)
  at t = elim (cases_Bool (eqb t set)) [
    | inl same ↦ ap (λ (k : ℕ). images_in sets new k) (eqb-true t set same)
        ∙ ap (λ (b : Bool). cond b (get_or new (set_at sets set).vol []) []) (low_on set (length sets) there) ∙ is
        ∙ sym (ap (λ (b : Bool). cond b image (images_in sets old t)) same)
    | inr other ↦ elim (cases_Bool (nat_lt t (length sets))) [
      | inl low ↦ ap (λ (b : Bool). cond b (get_or new (set_at sets t).vol []) []) low ∙ others (set_at sets t).vol (differs t other (below_is t (length sets) low))
          ∙ sym (ap (λ (b : Bool). cond b image (images_in sets old t)) other ∙ ap (λ (b : Bool). cond b (get_or old (set_at sets t).vol []) []) low)
      | inr high ↦ ap (λ (b : Bool). cond b (get_or new (set_at sets t).vol []) []) high
          ∙ sym (ap (λ (b : Bool). cond b image (images_in sets old t)) other ∙ ap (λ (b : Bool). cond b (get_or old (set_at sets t).vol []) []) high)
    ]
  ]

  pub images_one : images_in new_sets new ≡ with_image (images_in sets old) set image
  images_one = fun_ext (λ t. of_new t ∙ at t)

-- a put in the image of a set is that of the entry
one_of : (f : ℕ → Image) (y : Image) (t s : ℕ) → cond (eqb t s) (f s) y ≡ cond (eqb t s) (f t) y
one_of f y t s = elim (cases_Bool (eqb t s)) [
  | inl same ↦ ap (λ (k : ℕ). cond (eqb t s) (f k) y) (sym (eqb-true t s same))
  | inr other ↦ ap (λ (b : Bool). cond b (f s) y) other ∙ sym (ap (λ (b : Bool). cond b (f t) y) other)
]

pub after_is : (images : Images) (e : Entry) → with_image images e.set (put (images e.set) e.at e.bytes) ≡ after_entry images e
unfolding after_entry
after_is images e = fun_ext (λ t. one_of (λ s. put (images s) e.at e.bytes) (images t) t e.set)

-- nothing is kept of a set of which nothing was
pub none_kept : (set : ℕ) → no_sets ≡ with_set no_sets set false
none_kept set = fun_ext (λ t. both (eqb t set))
  where
    both : (b : Bool) → false ≡ cond b false false
    both true = refl
    both false = refl

-- ---- a half whose bits, session and entries have changed, over other images

pub sender_with : {T E : Type 0} (keys : Keys) (on : Bool) (r : Result T E) (below then : BelowSeen) (h g : SenderHalf) → ChangesSets keys on h.sets r g.sets → g.note ≡ h.note → g.session.number ≡ h.session.number
    → (images : Images) → images_in g.sets then.images ≡ images → (due : Due) → due_of g ≡ due
    → sender_of (held then g) ≡ record (sender_of (held below h)) { images = images; state = g.session.state; last = g.session.last; known = g.session.known; due = due }
sender_with keys on r below then h g c note number images images_are due due_is = λ i. record {
  on = λ set. nat_lt set (c.count i);
  here = λ set. nat_lt set (c.count i);
  contents = λ set. nat_lt set (c.count i) && is_filled (note i).empty (slot set i);
  images = images_are i;
  number = number i;
  role = (note i).role;
  state = g.session.state;
  last = g.session.last;
  known = g.session.known;
  taken = 0;
  applied = 0;
  due = due_is i;
  held = [];
  kept = no_sets;
}
  where
    slot : (set : ℕ) → (set_at g.sets set).slot ≡ (set_at h.sets set).slot
    slot set = (sets_stay keys on h.sets g.sets r c set).slot

-- ---- what is due of a half in no session, with some bits more

noted_one : (key b b' : Bool) → b' ≡ (key || b) → zero_due b' ≡ cond (is_some (zero_due b)) (zero_due b) (zero_due key)
noted_one true true b' is = ap (λ (x : Bool). zero_due x) is
noted_one true false b' is = ap (λ (x : Bool). zero_due x) is
noted_one false true b' is = ap (λ (x : Bool). zero_due x) is
noted_one false false b' is = ap (λ (x : Bool). zero_due x) is

pub due_noted : {T E : Type 0} (keys : Keys) (h : SenderHalf) (sets : List SetBits) (x : T) → ChangesSets {E = E} keys true h.sets (Ok x) sets → AreInside h.sets keys → is_session h.session.state ≡ false → due_of (half_with_bits h sets) ≡ noted (due_of h) keys
due_noted keys h sets x c inside off = fun_ext (λ t. fun_ext (λ seg.
    ap (λ (n : ℕ). cond (has_bit (set_at sets t) seg) (Some n) None) (nothing t seg)
    ∙ noted_one (keys t seg) (has_bit (set_at h.sets t) seg) (has_bit (set_at sets t) seg) (has_noted keys h.sets sets x c inside t seg)
    ∙ sym (ap (λ (d : Option ℕ). cond (is_some d) d (zero_due (keys t seg))) (ap (λ (n : ℕ). cond (has_bit (set_at h.sets t) seg) (Some n) None) (nothing t seg)))))
  where
    nothing : (t seg : ℕ) → ◌≡◌ {A = ℕ} (freeing_place h.session (places_at h t) seg) 0
    nothing t seg = off_is (is_session h.session.state) _ off
      where
        off_is : (b : Bool) (k : ℕ) → b ≡ false → ◌≡◌ {A = ℕ} (cond b k 0) 0
        off_is b k is = ap (λ (x : Bool). cond x k 0) is

-- the images that are found are those of the sets
pub images_parts : (new : BelowSeen) (g : SenderHalf) → images_found (parts_of (held new g)) ≡ images_in g.sets new.images
images_parts new g = λ i. λ t. cond (there_is g.sets t i) (get_or new.images (part_is g.sets t i).vol []) []

-- ---- the write

module _ (sound : Type 0) (below : BelowSeen) (h : SenderHalf) (e : Entry) (at len : ℕ) (number : h.session.number ≡ h.note.session) (over : IsOver below h.sets) (inside : IsEntryOver h e at len) (contents : (sender_of (held below h)).contents e.set ≡ true) where
  there : e.set < length h.sets
  there = inside.there

  vol : ℕ
  vol = (set_at h.sets e.set).vol

  told_at : IsSenderInStep sound (held below h) → IsToldAt below (set_at h.sets e.set).vol
  told_at st = st.volumes e.set there

  image_is : (sender_of (held below h)).images e.set ≡ get_or below.images (set_at h.sets e.set).vol []
  image_is = ap (λ (b : Bool). cond b (get_or below.images (set_at h.sets e.set).vol []) []) (low_on e.set (length h.sets) there)

  -- stopped in the bits
  pub finds_part : {T E : Type 0} (sets : List SetBits) (x : E) → ChangesSets {T = T} (touches e) true h.sets (Err x) sets → IsSenderInStep sound (held below h)
      → FindsPartNoted (parts_of (held below (with_sets h sets))) (sender_of (held below h)) (touches e)
  finds_part sets x c st = record {
    part = some_keys (touches e) below below h sets (Err x) c st.bits;
    within = some_within (touches e) below below h sets (Err x) c st.bits;
    finds = ap (λ (n : Note). found_by n (parts_of (held below (with_sets h sets)))) (again_is below below.note h.note st.stored st.note)
        ∙ found_changed (touches e) true h sets (Err x) c below below h.note h.session.number h.note.role (noted (due_of h) (some_keys (touches e) below below h sets (Err x) c st.bits))
        (sym number) refl refl refl (found_some (touches e) below below h sets (Err x) c st.bits refl over);
  }

  module _ {T E : Type 0} (sets : List SetBits) (x : T) (c : ChangesSets {E = E} (touches e) true h.sets (Ok x) sets) (bytes : List ℕ) (bytes_are : e.bytes ≡ blocks_of bytes) (new : BelowSeen) where
    module _ {T' E' : Type 0} (r : Result T' E') (w : WritesBelow sound below (set_at h.sets e.set).vol e.at bytes r new) where
      -- whatever the volume has then, the others are as they were
      images_are : images_in sets new.images ≡ with_image (images_in h.sets below.images) e.set (get_or new.images (set_at h.sets e.set).vol [])
      images_are = images_one (touches e) true h.sets sets (Ok x) c below.images new.images e.set (get_or new.images (set_at h.sets e.set).vol []) there refl w.kept (λ other low same. over.apart e.set other there low same)

      note_then : IsSenderInStep sound (held below h) → new.stored ≡ Some below.note
      note_then st = w.stored ∙ st.stored

    -- stopped behind them: each block is old or new
    pub finds_torn : {T' E' : Type 0} (y : E') → WritesBelow {T = T'} sound below (set_at h.sets e.set).vol e.at bytes (Err y) new → IsSenderInStep sound (held below h)
        → FindsTorn (parts_of (held new (with_sets h sets))) (sender_of (held below h)) e
    finds_torn y w st = record {
      image = get_or new.images (set_at h.sets e.set).vol [];
      mix = subst (λ (bs : Image). IsMix ((sender_of (held below h)).images e.set) e.at bs (get_or new.images (set_at h.sets e.set).vol [])) (sym bytes_are)
          (subst (λ (img : Image). IsMix img e.at (blocks_of bytes) (get_or new.images (set_at h.sets e.set).vol [])) (sym image_is) (w.failed st.sound (told_at st)));
      finds = ap (λ (n : Note). found_by n (parts_of (held new (with_sets h sets)))) (again_is new below.note h.note (note_then (Err y) w st) st.note)
          ∙ found_then below new h (with_sets h sets) (touches e) true (Ok x) c h.note (sym number) refl refl (with_image (images_in h.sets below.images) e.set (get_or new.images (set_at h.sets e.set).vol [])) (zeros (noted (due_of h) (touches e)))
          (images_parts new (with_sets h sets) ∙ images_are (Err y) w)
          (found_all (touches e) below new h sets x c (touches_inside h e at len inside) st.bits w.sizes over)
          ∙ (λ i. record (found_of (sender_of (held below h))) {
            images = with_image (images_in h.sets below.images) e.set (get_or new.images (set_at h.sets e.set).vol []);
            due = zeros (noted (due_of h) (touches e));
            contents = with_same (sender_of (held below h)).contents e.set contents i;
            kept = none_kept e.set i;
          });
    }

    -- done
    module _ {E' : Type 0} (u : Unit {0}) (w : WritesBelow {E = E'} sound below (set_at h.sets e.set).vol e.at bytes (Ok u) new) where
      put_is : IsSenderInStep sound (held below h) → get_or new.images (set_at h.sets e.set).vol [] ≡ put ((sender_of (held below h)).images e.set) e.at e.bytes
      put_is st = w.done st.sound (told_at st) ∙ ap (λ (img : Image). put img e.at (blocks_of bytes)) (sym image_is) ∙ ap (λ (bs : Image). put ((sender_of (held below h)).images e.set) e.at bs) (sym bytes_are)

      images_put : IsSenderInStep sound (held below h) → images_in sets new.images ≡ with_image (images_in h.sets below.images) e.set (put ((sender_of (held below h)).images e.set) e.at e.bytes)
      images_put st = images_are (Ok u) w ∙ ap (λ (img : Image). with_image (images_in h.sets below.images) e.set img) (put_is st)

      stays_written : BelowStays sound below new
      stays_written = below_written sound below new (set_at h.sets e.set).vol e.at bytes (Ok u) w

      spared_written : (g : SenderHalf) → g.sets ≡ sets → NoneFailed (held below h) (held new g)
      spared_written g is = record { faults = w.cause.same; armed = w.still_armed; sets = λ t. subst (λ (l : List SetBits). IsSpared (disk_at h.sets t) (disk_at l t)) (sym is) (c.done t).spared }

      step_written : (sound_new : Type 0) (g : SenderHalf) → g.sets ≡ sets → g.note ≡ h.note → (sound → sound_new) → IsSenderInStep sound (held below h) → IsSenderInStep sound_new (held new g)
      step_written sound_new g sets_are note_is sounds st = record {
        sound = sounds st.sound;
        stored = w.stored ∙ st.stored ∙ ap Some (sym w.note);
        note = subst (λ (n : Note). IsNote new.note n) (sym note_is) (subst (λ (b : List ℕ). IsNote b h.note) (sym w.note) st.note);
        volumes = λ t low. volume_told (subst (λ (l : List SetBits). t < length l) sets_are low) (ap (λ (l : List SetBits). (set_at l t).vol) sets_are ∙ (sets_stay (touches e) true h.sets sets (Ok x) c t).vol);
        bits = subst AreInStep (sym sets_are) (step_changed (touches e) true h.sets sets x c st.bits);
      }
        where
          volume_told : {t v : ℕ} → t < length sets → v ≡ (set_at h.sets t).vol → IsToldAt new v
          volume_told {t = t} low is = subst (λ (vol : ℕ). IsToldAt new vol) (sym is) (w.told (set_at h.sets t).vol (st.volumes t (omega (arith, low, c.count))))

      -- in no session
      written_half : is_session h.session.state ≡ false → IsSenderInStep sound (held below h) → sender_of (held new (half_with_bits h sets)) ≡ with_write (sender_of (held below h)) e
      written_half off st =
          sender_with (touches e) true (Ok x) below new h (half_with_bits h sets) c refl refl (with_image (images_in h.sets below.images) e.set (put ((sender_of (held below h)).images e.set) e.at e.bytes)) (images_put st)
          (noted (due_of h) (touches e)) (due_noted (touches e) h sets x c (touches_inside h e at len inside) off)
          ∙ (λ i. record (sender_of (held below h)) {
            images = with_image (images_in h.sets below.images) e.set (put ((sender_of (held below h)).images e.set) e.at e.bytes);
            due = noted (due_of h) (touches e);
            contents = with_same (sender_of (held below h)).contents e.set contents i;
            kept = none_kept e.set i;
          })

      pub is_written : (sound_new : Type 0) → is_session h.session.state ≡ false → (sound → sound_new) → IsWritten sound sound_new (held below h) e (held new (half_with_bits h sets))
      is_written sound_new off sounds = record {
        may = record { away = off; contents = contents };
        half = refl;
        stays = record { host = refl; land = refl; limits = refl; count = c.count; sets = sets_stay (touches e) true h.sets sets (Ok x) c; below = stays_written };
        spared = spared_written (half_with_bits h sets) refl;
        done = λ st. written_half off st;
        step = λ st. step_written sound_new (half_with_bits h sets) refl refl sounds st;
      }

      -- in a session
      pub is_placed : (sound_new : Type 0) (g : SenderHalf) → MayPlace (held below h) e → HasPlaced h e g → g.sets ≡ sets → (sound → sound_new) → IsPlaced sound sound_new (held below h) e g.session.last (held new g)
      is_placed sound_new g may p sets_are sounds = record {
        may = may;
        answer = ap (λ (k : SenderHalf). k.session.last) p.rest;
        half = p.rest;
        queue = subst (λ (n : ℕ). Pushes h.queue n e g.queue) (sym (ap (λ (k : SenderHalf). k.session.last) p.rest)) p.queue;
        stays = record {
          host = ap (λ (k : SenderHalf). k.host) p.rest;
          land = ap (λ (k : SenderHalf). k.land) p.rest;
          limits = p.queue.limits;
          count = p.bits.count;
          sets = sets_stay (touches e) true h.sets g.sets (Ok tt) p.bits;
          below = stays_written;
        };
        spared = spared_written g sets_are;
        done = λ st. placed_half st;
        step = λ st. step_written sound_new g sets_are (ap (λ (k : SenderHalf). k.note) p.rest) sounds st;
      }
        where
          placed_half : IsSenderInStep sound (held below h) → sender_of (held new g) ≡ with_place (sender_of (held below h)) e g.session.last (eqb h.session.mark 0)
          placed_half st =
              sender_with (touches e) true (Ok tt) below new h g p.bits (ap (λ (k : SenderHalf). k.note) p.rest) (ap (λ (k : SenderHalf). k.session.number) p.rest)
              (after_entry (images_in h.sets below.images) e)
              (ap (λ (l : List SetBits). images_in l new.images) sets_are ∙ images_put st ∙ after_is (images_in h.sets below.images) e)
              (placed_due (due_of h) (eqb h.session.mark 0) e (h.session.last + 1)) p.due
              ∙ (λ i. record (sender_of (held below h)) {
                images = after_entry (images_in h.sets below.images) e;
                state = ap (λ (k : SenderHalf). k.session.state) p.rest i;
                last = g.session.last;
                known = ap (λ (k : SenderHalf). k.session.known) p.rest i;
                due = placed_due (due_of h) (eqb h.session.mark 0) e (sym (ap (λ (k : SenderHalf). k.session.last) p.rest) i);
              })

  -- ---- stopped

  stays_in : {T E : Type 0} (sets : List SetBits) (r : Result T E) (c : ChangesSets (touches e) true h.sets r sets) (new : BelowSeen) (g : SenderHalf) → g.host ≡ h.host → g.land ≡ h.land → g.queue.limits ≡ h.queue.limits → g.sets ≡ sets → BelowStays sound below new
      → SenderStays sound (held below h) (held new g)
  stays_in sets r c new g host land limits sets_are stays = record {
    host = host;
    land = land;
    limits = limits;
    count = ap (λ (l : List SetBits). length l) sets_are ∙ c.count;
    sets = λ t. subst (λ (l : List SetBits). SetStays (set_at h.sets t) (set_at l t)) (sym sets_are) (sets_stay (touches e) true h.sets sets r c t);
    below = stays;
  }

  -- whatever session and entries it has then
  pub stopped_bits : {T E : Type 0} (x : E) (sets : List SetBits) (places : List SetPlaces) (s : Session) (queue : Queue) → MayWrite (held below h) e ⊎ MayPlace (held below h) e → s.state ≡ Logging → queue.limits ≡ h.queue.limits → ChangesSets {T = T} (touches e) true h.sets (Err x) sets
      → IsAdmitStopped sound (held below h) e refusal.Fault (held below (half_with h sets places s queue))
  stopped_bits x sets places s queue may left limits c = record {
    answer = refl;
    may = may;
    stays = stays_in sets (Err x) c below (half_with h sets places s queue) refl refl limits refl (below_same sound below);
    failed = inr (record { failed = c.failed; faults = refl; armed = refl });
    left = left;
    stopped = λ st. inl (finds_part sets x c st);
  }

  pub stopped_below : {T E T' E' : Type 0} (x : T) (sets : List SetBits) (places : List SetPlaces) (s : Session) (queue : Queue) (bytes : List ℕ) (new : BelowSeen) (y : E') → e.bytes ≡ blocks_of bytes → MayWrite (held below h) e ⊎ MayPlace (held below h) e → s.state ≡ Logging
      → queue.limits ≡ h.queue.limits → ChangesSets {E = E} (touches e) true h.sets (Ok x) sets → WritesBelow {T = T'} sound below (set_at h.sets e.set).vol e.at bytes (Err y) new
      → IsAdmitStopped sound (held below h) e refusal.Fault (held new (half_with h sets places s queue))
  stopped_below x sets places s queue bytes new y bytes_are may left limits c w = record {
    answer = refl;
    may = may;
    stays = stays_in sets (Ok x) c new (half_with h sets places s queue) refl refl limits refl (below_written sound below new (set_at h.sets e.set).vol e.at bytes (Err y) w);
    failed = inl (record { failed = record { rose = w.cause.failed; spent = w.spent }; sets = λ t. (c.done t).spared });
    left = left;
    stopped = λ st. inr (finds_torn sets x c bytes bytes_are new y w st);
  }

-- ---- as the code has it

logging_is : (s : State) → is_session s ≡ false → s ≡ Logging
logging_is Logging off = refl
logging_is Syncing off = cc
logging_is Receiving off = cc
logging_is Replicating off = cc
logging_is Queuing off = cc

not_err : false ≡ true → ⊥
not_err is = cc

contents_one : (low b c : Bool) → low ≡ true → b ≡ c → (low && b) ≡ c
contents_one low b c on is = ap (λ (x : Bool). x && b) on ∙ is

pub contents_at : (below : BelowSeen) (h : SenderHalf) (set : ℕ) (b : Bool) → set < length h.sets → is_filled h.note.empty (set_at h.sets set).slot ≡ b → (sender_of (held below h)).contents set ≡ b
contents_at below h set b low is = contents_one (nat_lt set (length h.sets)) (is_filled h.note.empty (set_at h.sets set).slot) b (low_on set (length h.sets) low) is

module _ (sound sound_new : Type 0) (below : BelowSeen) (h : SenderHalf) (set at : ℕ) (bytes : List ℕ) (number : h.session.number ≡ h.note.session) (over : IsOver below h.sets) (there : set < length h.sets) (range : IsRangeOf below (set_at h.sets set).vol at (length bytes))
    (may : MayWrite (held below h) (write_of set at bytes)) where
  inside_set : IsEntryOver h (write_of set at bytes) at (length bytes / 512)
  inside_set = entry_over below h set at bytes over there range

  local_keys : {T E : Type 0} (r : Result T E) (sets : List SetBits) → ChangesSets (touched set at (length bytes)) true h.sets r sets → ChangesSets (touches (write_of set at bytes)) true h.sets r sets
  local_keys r sets c = subst (λ (k : Keys). ChangesSets k true h.sets r sets) (keys_are set at bytes) c

  pub admits_local : {E : Type 0} (r : Result (Unit {0}) E) (sets : List SetBits) (new : BelowSeen) → WritesNoted sound set at bytes h.sets below r sets new → (sound → OnOk r sound_new)
      → AdmitsLocal sound sound_new (held below h) (write_of set at bytes) r (held new (half_with_bits h sets))
  admits_local (Ok u) sets new (inl stops) sounds = absurd (not_err stops.answer)
  admits_local (Ok u) sets new (inr behind) sounds =
      is_written sound below h (write_of set at bytes) at (length bytes / 512) number over inside_set may.contents sets u (local_keys (Ok u) sets behind.bits) bytes refl new u behind.writes sound_new may.away sounds
  admits_local (Err x) sets new (inl stops) sounds = subst (λ (b : BelowSeen). IsAdmitStopped sound (held below h) (write_of set at bytes) refusal.Fault (held b (half_with_bits h sets))) (sym stops.below)
      (stopped_bits sound below h (write_of set at bytes) at (length bytes / 512) number over inside_set may.contents x sets h.places h.session h.queue (inl may) (logging_is h.session.state may.away) refl (local_keys (Err x) sets stops.bits))
  admits_local (Err x) sets new (inr behind) sounds =
      stopped_below sound below h (write_of set at bytes) at (length bytes / 512) number over inside_set may.contents (tt {0}) sets h.places h.session h.queue bytes new x refl (inl may) (logging_is h.session.state may.away) refl (local_keys (Ok (tt {0})) sets behind.bits) behind.writes

module _ (sound sound_new : Type 0) (below : BelowSeen) (h : SenderHalf) (e : Entry) (at len : ℕ) (bytes : List ℕ) (over : IsOver below h.sets) (inside : IsEntryOver h e at len) (may : MayPlace (held below h) e) (bytes_are : e.bytes ≡ blocks_of bytes) where
  pub placed_bits : {E : Type 0} (x : E) (g : SenderHalf) → PlacesInPart h e x g → IsAdmitStopped sound (held below h) e refusal.Fault (held below g)
  placed_bits x g p = subst (λ (k : SenderHalf). IsAdmitStopped sound (held below h) e refusal.Fault (held below k)) (sym p.rest)
      (stopped_bits sound below h e at len p.number over inside may.contents x g.sets h.places (left h.session Logging) g.queue (inr may) refl p.limits p.bits)

  module _ (g : SenderHalf) (p : HasPlaced h e g) (new : BelowSeen) where
    vol_then : (set_at g.sets e.set).vol ≡ (set_at h.sets e.set).vol
    vol_then = (sets_stay (touches e) true h.sets g.sets (Ok tt) p.bits e.set).vol

    moved : {E : Type 0} (r : Result (Unit {0}) E) → WritesBelow sound below (set_at g.sets e.set).vol at bytes r new → WritesBelow sound below (set_at h.sets e.set).vol e.at bytes r new
    moved {E = E} r w = subst (λ (n : ℕ). WritesBelow {T = Unit {0}} {E = E} sound below (set_at h.sets e.set).vol n bytes r new) (sym inside.at_is)
        (subst (λ (v : ℕ). WritesBelow {T = Unit {0}} {E = E} sound below v at bytes r new) vol_then w)

    pub admits_placed : {E : Type 0} (r : Result (Unit {0}) E) (k : SenderHalf) → WritesBelow sound below (set_at g.sets e.set).vol at bytes r new → OnOk r (k ≡ g) → OnErr r (IsStopped g k) → (sound → OnOk r sound_new) → AdmitsPlaced sound sound_new (held below h) e r (held new k)
    admits_placed (Ok u) k w ok err sounds = subst (λ (x : SenderHalf). IsPlaced sound sound_new (held below h) e x.session.last (held new x)) (sym ok)
        (is_placed sound below h e at len p.number over inside may.contents g.sets tt p.bits bytes bytes_are new u
        (moved (Ok u) w) sound_new g may p refl sounds)
    admits_placed (Err x) k w ok err sounds = subst (λ (y : SenderHalf). IsAdmitStopped sound (held below h) e refusal.Fault (held new y)) (sym (err.rest ∙ ap (λ (y : SenderHalf). half_stopped y k.queue) p.rest))
        (stopped_below sound below h e at len p.number over inside may.contents tt g.sets g.places (left (placed h.session) Logging) k.queue bytes new x bytes_are (inr may) refl (err.limits ∙ p.queue.limits) p.bits
        (moved (Err x) w))

-- ---- before anything is written

module _ (below : BelowSeen) (h : SenderHalf) (set at : ℕ) (bytes : List ℕ) (on : is_session h.session.state ≡ true) (there : set < length h.sets) (full : is_filled h.note.empty (set_at h.sets set).slot ≡ true) where
  fits_is : (b : Bool) → is_full_for h.queue (length bytes / 512) ≡ b → is_full h.queue (write_of set at bytes) ≡ b
  fits_is b is = ap (λ (n : ℕ). is_full_for h.queue n) (length-blocks_of bytes) ∙ is

  pub has_no_room : (full_is : Full) (why : Refusal) → why ≡ refusal.QueueFull full_is.writes full_is.blocks → full_is ≡ full_of h.queue → is_full_for h.queue (length bytes / 512) ≡ true → HasNoRoom (held below h) (write_of set at bytes) why (held below h)
  has_no_room full_is why answer is off = record {
    session = on;
    contents = contents_at below h set true there full;
    full = record { answer = answer ∙ ap (λ (f : Full). refusal.QueueFull f.writes f.blocks) is; full = fits_is true off; kept = refl };
  }

  module _ (fits : is_full_for h.queue (length bytes / 512) ≡ false) where
    pub may_place : MayPlace (held below h) (write_of set at bytes)
    may_place = record { session = on; contents = contents_at below h set true there full; room = fits_is false fits }

    pub has_no_entry : HasNoEntry (held below h) (write_of set at bytes) refusal.NoMemory (held below h)
    has_no_entry = record { answer = refl; may = may_place; kept = refl }

    pub may_place_made : (e : Entry) → e ≡ write_of set at bytes → MayPlace (held below h) e
    may_place_made e is = subst (λ (x : Entry). MayPlace (held below h) x) (sym is) may_place

    pub has_room : (e : Entry) → e ≡ write_of set at bytes → h.session.last < 2 ^ 62 → HasRoom h e
    has_room e is last = subst (λ (x : Entry). HasRoom h x) (sym is) (record { session = on; last = last; room = fits_is false fits })

pub made_over : (below : BelowSeen) (h : SenderHalf) (set at : ℕ) (bytes : List ℕ) (e : Entry) → e ≡ write_of set at bytes → IsOver below h.sets → set < length h.sets → IsRangeOf below (set_at h.sets set).vol at (length bytes) → IsEntryOver h e at (length bytes / 512)
made_over below h set at bytes e is over there range = subst (λ (x : Entry). IsEntryOver h x at (length bytes / 512)) (sym is) (entry_over below h set at bytes over there range)
