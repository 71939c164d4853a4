-- How a set is placed, and opened on its disks or not.
use Rattle.std.proofs.Common.{◌≡◌, ◌⊎◌, inl, inr, ℕ, zero, suc, ◌+◌, ◌<◌, ◌≤◌, Bool, true, false, not, cond, eqb, ◌||◌, ◌&&◌, nat_lt, List, [], ◌∷◌, length, map, filter, slice_index_or, Option, None, Some, is_some, ltb, IfNone, Result, Ok, Err, IfOk, IfErr, refl, sym, ◌∙◌, ap, subst, arith}
use Rattle.std.specs.List.{range_with_len, list_all, position, position_or_len, position_from}
use Rattle.std.proofs.lemmas.List.Quantifiers.{position-Some}
use Rattle.avs_code.specs.Slot.{no_slot}
use Rattle.avs_code.specs.Label.{IsLabel}
use Rattle.std.proofs.lemmas.Iterator.Adapters.{position_from-zero}
use Rattle.std.proofs.lemmas.Bool.{false≢true, cases_lt, eq-eqb, ne_eqb}
use Rattle.std.proofs.lemmas.Bool.Decides.{nat_tests}
use Rattle.std.proofs.lemmas.List.{get_or-map, length-map}
use Rattle.avs_seg.specs.Image.{block_at}
use Rattle.avs_seg.specs.Segment.{seg_count}
use Rattle.avs_dev.specs.Seen.{Seen, IsTold}
use Rattle.avs_dev.specs.declared.back.Why.{Why}
use Rattle.avs_dev.specs.declared.back.Why.TheVariants.{Size, BadRecord, NoMemory, Fault}
use Rattle.avs_flip.specs.Areas.{live}
use Rattle.avs_code.specs.declared.slot_table.Slot.{Slot}
use Rattle.avs_model.specs.Shadows.{Online, Offline, Exported}
use Rattle.avs_model.specs.declared.shadow.Kind.{Kind}
use Rattle.avs_model.specs.declared.shadow.Kind.TheVariants.{Ind, Dep, Compact}
use Rattle.avs_chunk.specs.States.{on_master, on_shadow, state_on}
use Rattle.avs_chunk.specs.ChunkSet.{ChunkSet, disk_of, state_of, disk_state, chunks_of, shadow_label}
use Rattle.avs_chunk.specs.Making.{Fits, IsSmall, Loads, LoadRefused, areas_on}
use Rattle.avs_chunk.specs.Finding.{Finds, FindRefused, back_of}
use Rattle.avs_ii.specs.Held.{slot_in, is_live, has_flag, live as live_flag, area_b, offline, exported}
use Rattle.avs_ii.specs.Meaning.{standing_of}
use Rattle.avs_ii.specs.SetDisks.{SetDisks}
use Rattle.avs_ii.specs.Parts.{size_of}
use Rattle.avs_ii.specs.Saved.{IsSettledInMemory}
use Rattle.avs_ii.specs.Making.{IsPlaced, IsSettledOn, fits_slot, kind_number, between}
use Rattle.avs_ii.specs.Opening.{is_whole, is_placed, between_parts, live_area, OpensChunks, ChunksRefused, OpensSet, WhyNotOpened, SetRefused}

-- ---- tests

pub and_true : (a b : Bool) → (a && b) ≡ true → (a ≡ true) × (b ≡ true)
and_true true true t = (refl, refl)
and_true true false t = absurd (false≢true t)
and_true false b t = absurd (false≢true t)

pub and_is : (a b : Bool) → a ≡ true → b ≡ true → (a && b) ≡ true
and_is true true s t = refl
and_is true false s t = absurd (false≢true t)
and_is false b s t = absurd (false≢true s)

not_true : (a : Bool) → not a ≡ true → a ≡ false
not_true true t = absurd (false≢true t)
not_true false t = refl

not_is : (a : Bool) → a ≡ false → not a ≡ true
not_is true t = absurd (false≢true (sym t))
not_is false t = refl

or_then : (a b : Bool) → (not a || b) ≡ true → a ≡ true → b ≡ true
or_then true true t s = refl
or_then true false t s = absurd (false≢true t)
or_then false b t s = absurd (false≢true s)

or_is : (a b : Bool) → (a ≡ true → b ≡ true) → (not a || b) ≡ true
or_is true b f = f refl
or_is false b f = refl

pub lt_true : (a b : ℕ) → nat_lt a b ≡ true → a < b
lt_true a b t = grind (arith, nat_tests)

pub lt_is : (a b : ℕ) → a < b → nat_lt a b ≡ true
lt_is a b t = grind (arith, nat_tests)

none_is : {X : Type 0} (o : Option X) → not (is_some o) ≡ true → o ≡ None
none_is None t = refl
none_is (Some x) t = absurd (false≢true t)

is_none : {X : Type 0} (o : Option X) → o ≡ None → not (is_some o) ≡ true
is_none o e = ap (λ p. not (is_some p)) e

-- ---- how a set is placed

-- a slot that fits is neither exported nor offline
pub fits_online : (slot : Slot) (kind : Kind) → fits_slot slot kind ≡ true → standing_of slot ≡ Online
fits_online slot kind t =
    let a = and_true (eqb slot.kind (kind_number kind)) (not (has_flag offline slot) && not (has_flag exported slot)) t in
    let b = and_true (not (has_flag offline slot)) (not (has_flag exported slot)) a.1 in
    ap (λ (e : Bool). cond e (Exported slot.stamp) (cond (has_flag offline slot) (Offline slot.need slot.slots) Online)) (not_true (has_flag exported slot) b.1)
    ∙ ap (λ (o : Bool). cond o (Offline slot.need slot.slots) Online) (not_true (has_flag offline slot) b.0)

whole_is : (kind : Kind) → is_whole kind ≡ true → (kind ≡ Ind) ⊎ (kind ≡ Dep)
whole_is Ind t = inl refl
whole_is Dep t = inr refl
whole_is Compact t = absurd (false≢true t)

whole_if : (kind : Kind) → (kind ≡ Ind) ⊎ (kind ≡ Dep) → is_whole kind ≡ true
whole_if kind (inl e) = ap is_whole e
whole_if kind (inr e) = ap is_whole e

module _ (slots : List Slot) (volumes : List Seen) (s : SetDisks) where
  abbrev fits_test : Bool
  fits_test = not (is_live slots s.slot) || fits_slot (slot_in slots s.slot) s.kind

  tests : is_placed slots (length volumes) s ≡ true → (nat_lt s.slot 16 ≡ true) × (nat_lt s.master (length volumes) ≡ true) × (is_whole s.kind ≡ true) × (not (is_some s.over) ≡ true) × (fits_test ≡ true)
  tests t =
      let a = and_true (nat_lt s.slot 16) _ t in
      let b = and_true (nat_lt s.master (length volumes)) _ a.1 in
      let d = and_true (is_whole s.kind) _ b.1 in
      let e = and_true (not (is_some s.over)) _ d.1 in
      (a.0, b.0, d.0, e.0, e.1)

  pub placed_slot : is_placed slots (length volumes) s ≡ true → s.slot < 16
  placed_slot t = lt_true s.slot 16 (tests t).0

  pub placed_master : is_placed slots (length volumes) s ≡ true → s.master < length volumes
  placed_master t = lt_true s.master (length volumes) (tests t).1

  pub placed_is : is_placed slots (length volumes) s ≡ true → s.shadow ≡ Some (disk_of s.shadow) → Fits s.shadow s.bitmap (size_of volumes s.master) → 0 < size_of volumes s.master → IsPlaced slots volumes s
  placed_is t there fits some = record {
    slot = placed_slot t;
    master = placed_master t;
    there = there;
    shadow = fits.shadow (disk_of s.shadow) there;
    bitmap = fits.bitmap;
    some = some;
    whole = whole_is s.kind (tests t).2;
    plain = none_is s.over (tests t).3;
    fits = λ l. or_then (is_live slots s.slot) (fits_slot (slot_in slots s.slot) s.kind) (tests t).4 l;
  }

  pub placed_if : IsPlaced slots volumes s → is_placed slots (length volumes) s ≡ true
  placed_if p =
      and_is (nat_lt s.slot 16) _ (lt_is s.slot 16 p.slot)
      (and_is (nat_lt s.master (length volumes)) _ (lt_is s.master (length volumes) p.master)
      (and_is (is_whole s.kind) _ (whole_if s.kind p.whole)
      (and_is (not (is_some s.over)) fits_test (is_none s.over p.plain)
      (or_is (is_live slots s.slot) (fits_slot (slot_in slots s.slot) s.kind) p.fits))))

  pub not_placed : is_placed slots (length volumes) s ≡ false → IsPlaced slots volumes s → ⊥
  not_placed t p = false≢true (sym t ∙ placed_if p)

  pub no_block : size_of volumes s.master ≡ zero → IsPlaced slots volumes s → ⊥
  no_block t p = omega (arith, p.some, t)

  pub opens_set : (chunks : ChunkSet) → is_placed slots (length volumes) s ≡ true → 0 < size_of volumes s.master → OpensChunks slots s.slot s.kind s.shadow s.bitmap (size_of volumes s.master) chunks → OpensSet slots volumes s (record { slot = s.slot; master = s.master; chunks = chunks })
  opens_set chunks t some o = record { placed = placed_is t o.there o.fits some; slot = refl; master = refl; chunks = o }

  small_odd : (need have : ℕ) → IsSmall s.shadow s.bitmap (size_of volumes s.master) need have → IsPlaced slots volumes s → ⊥
  small_odd need have (inl w) p =
      let disk : disk_of s.shadow ≡ w.disk = ap disk_of w.there in
      let size : (disk_of s.shadow).size ≡ w.disk.size = ap (λ (d : Seen). d.size) disk in
      omega (arith, p.shadow, size, w.needs, w.has, w.less)
  small_odd need have (inr w) p = omega (arith, p.bitmap, w.needs, w.has, w.less)

  why_set : is_placed slots (length volumes) s ≡ true → 0 < size_of volumes s.master → (why : Why) (new : Seen) → ChunksRefused slots s.slot s.shadow s.bitmap (size_of volumes s.master) why new → WhyNotOpened slots volumes s (between_parts why) new
  why_set t some (Size need have) new w = inl (refl, λ p. small_odd need have w p)
  why_set t some (BadRecord field) new (inl w) = inl (w.0, λ p. nothing (sym w.1 ∙ p.there))
    where
      nothing : {X : Type 0} {x : X} → None ≡ Some x → ⊥
      nothing e = absurd (false≢true (ap is_some e))
  why_set t some (BadRecord field) new (inr w) = inr (placed_is t w.there w.fits some, λ told. record { live = w.live; bitmap = w.bad told })
  why_set t some NoMemory new w = tt
  why_set t some Fault new w = w

  pub refused_set : is_placed slots (length volumes) s ≡ true → 0 < size_of volumes s.master → (why : Why) (shadow' : Option Seen) (new : Seen) → ChunksRefused slots s.slot s.shadow s.bitmap (size_of volumes s.master) why new → shadow' ≡ s.shadow → new ≡ record s.bitmap { faults = new.faults } → s.bitmap.faults ≤ new.faults
      → SetRefused slots volumes s (between_parts why) (record s { shadow = shadow'; bitmap = new })
  refused_set t some why shadow' new w back is later = record {
    is = ap (λ (o : Option Seen). record s { shadow = o; bitmap = new }) back ∙ ap (λ (d : Seen). record s { bitmap = d }) is;
    later = later;
    cause = why_set t some why new w;
  }

-- ---- the chunks of a set

live_is : (slots : List Slot) (slot : ℕ) (live_b : Bool) → is_live slots slot ≡ true → live_b ≡ has_flag area_b (slot_in slots slot) → live_b ≡ live_area slots slot
live_is slots slot live_b l e = e ∙ sym (ap (λ (b : Bool). cond b (has_flag area_b (slot_in slots slot)) false) l)

pending_is : (slots : List Slot) (slot : ℕ) → is_live slots slot ≡ false → false ≡ live_area slots slot
pending_is slots slot l = sym (ap (λ (b : Bool). cond b (has_flag area_b (slot_in slots slot)) false) l)

module _ (slots : List Slot) (slot : ℕ) (kind : Kind) (d bitmap : Seen) (blocks : ℕ) (new : ChunkSet) where
  pub opens_live : (live_b : Bool) → is_live slots slot ≡ true → live_b ≡ has_flag area_b (slot_in slots slot) → Loads kind (Some d) bitmap blocks live_b new → IsSettledInMemory new → OpensChunks slots slot kind (Some d) bitmap blocks new
  opens_live live_b l e o settled = record {
    is = o.is ∙ ap (λ (b : Bool). record { kind = kind; shadow = Some d; areas = areas_on new.areas.disk blocks b; memory = new.memory; blocks = blocks }) (live_is slots slot live_b l e);
    there = refl;
    fits = o.fits;
    disk = o.disk;
    later = o.later;
    label = λ _ told. o.label told;
    step = λ _ told. o.step told;
    settled = settled;
    pending = λ not_live c lt. absurd (false≢true (sym not_live ∙ l));
  }

  pub opens_found : is_live slots slot ≡ false → Finds kind d bitmap blocks new → OpensChunks slots slot kind (Some d) bitmap blocks new
  opens_found l f =
      let disk : new.areas.disk ≡ bitmap = ap (λ (s : ChunkSet). s.areas.disk) f.is in
      record {
        is = f.is ∙ ap (λ (x : Seen). record { kind = kind; shadow = Some d; areas = areas_on x blocks false; memory = new.memory; blocks = blocks }) (sym disk)
            ∙ ap (λ (b : Bool). record { kind = kind; shadow = Some d; areas = areas_on new.areas.disk blocks b; memory = new.memory; blocks = blocks }) (pending_is slots slot l);
        there = refl;
        fits = f.fits;
        disk = disk ∙ ap (λ (n : ℕ). record bitmap { faults = n }) (ap (λ (x : Seen). x.faults) (sym disk));
        later = omega (arith, ap (λ (x : Seen). x.faults) disk);
        label = λ live told. absurd (false≢true (sym l ∙ live));
        step = λ live told. absurd (false≢true (sym l ∙ live));
        settled = record { none = λ c lt e. never c (sym (f.states c lt) ∙ e) };
        pending = λ _. f.states;
      }
    where
      never : (c : ℕ) → on_master ≡ on_shadow → ⊥
      never c e = omega (arith, e)

  -- by the bitmap no chunk stands on the shadow alone, so none does in memory
  pub settled_by : (live_b : Bool) → live_b ≡ has_flag area_b (slot_in slots slot) → Loads kind (Some d) bitmap blocks live_b new → IsTold bitmap → IsSettledOn bitmap blocks (has_flag area_b (slot_in slots slot)) → IsSettledInMemory new
  unfolding live
  settled_by live_b e o told on = record { none = λ c lt is. on.none c (count c lt) (sym (same c) ∙ sym ((o.step told).each c lt) ∙ is) }
    where
      count : (c : ℕ) → c < chunks_of new → c < seg_count blocks
      count c lt = subst (λ (n : ℕ). c < seg_count n) (ap (λ (s : ChunkSet). s.blocks) o.is) lt

      same : (c : ℕ) → disk_state new c ≡ state_on (live (areas_on bitmap blocks (has_flag area_b (slot_in slots slot)))) c
      same c =
          ap (λ (s : ChunkSet). disk_state s c) o.is
          ∙ ap (λ (b : Bool). state_on (live (areas_on new.areas.disk blocks b)) c) e
          ∙ ap (λ (x : Seen). state_on (live (areas_on x blocks (has_flag area_b (slot_in slots slot)))) c) o.disk

  labelled_by : (live_b : Bool) → Loads kind (Some d) bitmap blocks live_b new → IsTold bitmap → IsLabel (block_at bitmap.image 0) (shadow_label blocks)
  labelled_by live_b o told =
      subst (λ (n : ℕ). IsLabel (block_at bitmap.image 0) (shadow_label n)) o.blocks_is
      (subst (λ (x : Seen). IsLabel (block_at x.image 0) (shadow_label new.blocks)) o.disk (o.label told).label)

  pub refused_settled : (live_b : Bool) (why : Why) (now : Seen) → is_live slots slot ≡ true → live_b ≡ has_flag area_b (slot_in slots slot) → Loads kind (Some d) bitmap blocks live_b new → (why ≡ BadRecord between) × (IsSettledInMemory new → ⊥) → ChunksRefused slots slot (Some d) bitmap blocks why now
  refused_settled live_b why now l e o w = subst (λ (y : Why). ChunksRefused slots slot (Some d) bitmap blocks y now) (sym w.0)
      (inr (record { live = l; there = refl; fits = o.fits; bad = λ told. inr (record { label = labelled_by live_b o told; broken = λ on. w.1 (settled_by live_b e o told on); number = refl }) }))

pub refused_load : (slots : List Slot) (slot : ℕ) (d bitmap : Seen) (blocks : ℕ) (why : Why) (now : Seen) → is_live slots slot ≡ true → LoadRefused (Some d) bitmap blocks why now → ChunksRefused slots slot (Some d) bitmap blocks why now
refused_load slots slot d bitmap blocks (Size need have) now l w = w
refused_load slots slot d bitmap blocks (BadRecord field) now l w = inr (record { live = l; there = refl; fits = w.0; bad = λ told. inl (w.1 told) })
refused_load slots slot d bitmap blocks NoMemory now l w = tt
refused_load slots slot d bitmap blocks Fault now l w = w.1

pub refused_find : (slots : List Slot) (slot : ℕ) (d bitmap : Seen) (blocks : ℕ) (why : Why) (now : Seen) → FindRefused d bitmap blocks why → ChunksRefused slots slot (Some d) bitmap blocks why now
refused_find slots slot d bitmap blocks (Size need have) now w = w
refused_find slots slot d bitmap blocks (BadRecord field) now w = absurd w
refused_find slots slot d bitmap blocks NoMemory now w = tt
refused_find slots slot d bitmap blocks Fault now w = absurd w

-- ---- how many chunks stand on the shadow alone

count_parts : (p : ℕ → Bool) (first n : ℕ) (b : Bool) → p first ≡ b → length (filter p (range_with_len first (suc n))) ≡ cond b (suc (length (filter p (range_with_len (first + 1) n)))) (length (filter p (range_with_len (first + 1) n)))
count_parts p first n b is = ap (λ (t : Bool). length (cond t (first ∷ filter p (range_with_len (first + 1) n)) (filter p (range_with_len (first + 1) n)))) is ∙ both b
  where
    both : (b : Bool) → length (cond b (first ∷ filter p (range_with_len (first + 1) n)) (filter p (range_with_len (first + 1) n))) ≡ cond b (suc (length (filter p (range_with_len (first + 1) n)))) (length (filter p (range_with_len (first + 1) n)))
    both true = refl
    both false = refl

not_suc : (r : ℕ) → suc r ≡ zero → ⊥
not_suc r e = omega (arith, e)

same_number : (c first : ℕ) → first ≤ c → c ≤ first → first ≡ c
same_number c first low same = omega (arith, low, same)

count_step : (p : ℕ → Bool) (first n c : ℕ) (b : Bool) → p first ≡ b → length (filter p (range_with_len first (suc n))) ≡ 0 → first ≤ c → (first < c) ⊎ (c ≤ first) → (length (filter p (range_with_len (first + 1) n)) ≡ 0 → first < c → p c ≡ false) → p c ≡ false
count_step p first n c true is e low way more = absurd (not_suc (length (filter p (range_with_len (first + 1) n))) (sym (count_parts p first n true is) ∙ e))
count_step p first n c false is e low (inl lt) more = more (sym (count_parts p first n false is) ∙ e) lt
count_step p first n c false is e low (inr le) more = subst (λ (k : ℕ). p k ≡ false) (same_number c first low le) is

count_none : (p : ℕ → Bool) (first n : ℕ) → length (filter p (range_with_len first n)) ≡ 0 → (c : ℕ) → first ≤ c → c < first + n → p c ≡ false
count_none p first zero e c low high = absurd (omega (arith, low, high))
count_none p first (suc n) e c low high = count_step p first n c (p first) refl e low (cases_lt first c) (λ e' lt. count_none p (first + 1) n e' c (omega (arith, lt)) (omega (arith, high)))

pub none_count : (p : ℕ → Bool) (first n : ℕ) → ((c : ℕ) → first ≤ c → c < first + n → p c ≡ false) → length (filter p (range_with_len first n)) ≡ 0
none_count p first zero all = refl
none_count p first (suc n) all =
    ap (λ (t : Bool). length (cond t (first ∷ filter p (range_with_len (first + 1) n)) (filter p (range_with_len (first + 1) n)))) (all first (omega arith) (omega arith))
    ∙ none_count p (first + 1) n (λ c low high. all c (omega (arith, low)) (omega (arith, high)))

pub back_none : (s : ChunkSet) → back_of s ≡ 0 → IsSettledInMemory s
back_none s e = record { none = λ c lt is. false≢true (sym (count_none (λ k. eqb (state_of s k) on_shadow) 0 (chunks_of s) e c (omega arith) (omega (arith, lt))) ∙ eq-eqb (state_of s c) on_shadow is) }

pub none_back : (s : ChunkSet) → IsSettledInMemory s → back_of s ≡ 0
none_back s settled = none_count (λ k. eqb (state_of s k) on_shadow) 0 (chunks_of s) (λ c low high. ne_eqb (state_of s c) on_shadow (settled.none c (omega (arith, high))))

-- ---- sizes of volumes

pub size_seen : {D : Type 0} (seen : D → Seen) (volumes : List D) (i : ℕ) (x : D) → i < length volumes → x ≡ slice_index_or volumes i x → size_of (map seen volumes) i ≡ (seen x).size
size_seen seen volumes i x lt is =
    get_or-map (λ (v : Seen). v.size) (map seen volumes) i (seen x) 0 (omega (arith, lt, length-map volumes seen))
    ∙ ap (λ (v : Seen). v.size) (get_or-map seen volumes i x (seen x) lt ∙ ap seen (sym is))

pub size_placed : {D : Type 0} (seen : D → Seen) (volumes : List D) (slots : List Slot) (s : SetDisks) → is_placed slots (length volumes) s ≡ true → is_placed slots (length (map seen volumes)) s ≡ true
size_placed seen volumes slots s t = ap (λ (n : ℕ). is_placed slots n s) (length-map volumes seen) ∙ t

pub size_there : {D : Type 0} (seen : D → Seen) (volumes : List D) (slots : List Slot) (s : SetDisks) → is_placed slots (length (map seen volumes)) s ≡ true → s.master < length volumes
size_there seen volumes slots s t = omega (arith, placed_master slots (map seen volumes) s t, length-map volumes seen)

pub some_size : (n m : ℕ) → (n ≡ 0 → ⊥) → n ≡ m → 0 < m
some_size n m not_none is = at_size n not_none is
  where
    at_size : (n : ℕ) → (n ≡ 0 → ⊥) → n ≡ m → 0 < m
    at_size zero never is = absurd (never refl)
    at_size (suc n) never is = omega (arith, is)

-- ---- results

pub if_ok : {T E : Type 0} {P Q : T → Type 0} (r : Result T E) → IfOk r P → ((x : T) → P x → Q x) → IfOk r Q
if_ok (Ok x) p f = f x p
if_ok (Err e) p f = tt

pub if_err : {T E : Type 0} {P Q : E → Type 0} (r : Result T E) → IfErr r P → ((x : E) → P x → Q x) → IfErr r Q
if_err (Ok x) p f = tt
if_err (Err e) p f = f e p

pub none_exit : {T P : Type 0} (r : Option T) → P → IfNone r P
none_exit None p = p
none_exit (Some x) p = tt

-- no slot is free
from_none : (slots : List Slot) (i : ℕ) → position_from (λ (s : Slot). not (has_flag live_flag s)) i slots ≡ None → list_all (λ (s : Slot). has_flag live_flag s) slots ≡ true
from_none [] i e = refl
from_none (x ∷ slots) i e = at_head (has_flag live_flag x) refl (λ e'. from_none slots (i + 1) e')
  where
    at_head : (b : Bool) → has_flag live_flag x ≡ b → (position_from (λ (s : Slot). not (has_flag live_flag s)) (i + 1) slots ≡ None → list_all (λ (s : Slot). has_flag live_flag s) slots ≡ true) → (has_flag live_flag x && list_all (λ (s : Slot). has_flag live_flag s) slots) ≡ true
    at_head true is more = and_is (has_flag live_flag x) (list_all (λ (s : Slot). has_flag live_flag s) slots) is (more (sym (ap (λ (t : Bool). cond (not t) (Some i) (position_from (λ (s : Slot). not (has_flag live_flag s)) (i + 1) slots)) is) ∙ e))
    at_head false is more = absurd (false≢true (sym (ap is_some (sym (ap (λ (t : Bool). cond (not t) (Some i) (position_from (λ (s : Slot). not (has_flag live_flag s)) (i + 1) slots)) is) ∙ e))))

pub all_live : (slots : List Slot) → cond (ltb (position_or_len (λ (s : Slot). not (has_flag live_flag s)) slots) (length slots)) (Some (position_or_len (λ (s : Slot). not (has_flag live_flag s)) slots)) None ≡ None → list_all (λ (s : Slot). has_flag live_flag s) slots ≡ true
all_live slots e = from_none slots 0 (sym (position_from-zero (λ (s : Slot). not (has_flag live_flag s)) slots) ∙ e)

-- the slots before the first that is not live are live
pub live_before : (slots : List Slot) (place : ℕ) → position (λ (s : Slot). not (has_flag live_flag s)) slots ≡ Some place → (other : ℕ) → other < place → is_live slots other ≡ true
live_before slots place is other lt = back (has_flag live_flag (slot_in slots other)) ((position-Some (λ (s : Slot). not (has_flag live_flag s)) slots place no_slot is).2 other lt)
  where
    back : (b : Bool) → not b ≡ false → b ≡ true
    back true e = refl
    back false e = cc
