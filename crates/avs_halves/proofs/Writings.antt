-- A write of a half in no session: its bits, its images and its contents.
use Rattle.std.proofs.Common.{◌≡◌, ◌≢◌, inl, inr, ℕ, ◌<◌, Bool, true, false, ◌&&◌, cond, eqb, List, [], length, map, get_or, Result, Ok, Option, None, Some, is_some, ◌∙◌, sym, refl, ap, arith}
use Rattle.std.specs.Prelude.{nat_lt}
use Rattle.std.proofs.Math.Path.{fun_ext}
use Rattle.std.proofs.Math.ListN.{get_or-map}
use Rattle.std.proofs.lemmas.List.{length-map, ext_get_or}
use Rattle.std.proofs.lemmas.Bool.{cases_Bool, eqb-true, eq-eqb}
use Rattle.std.proofs.lemmas.Bool.Decides.{nat_tests}
use Rattle.avs_seg.specs.Image.{Image, is_inside}
use Rattle.avs_seg.specs.Segment.{first_segment, touch_count}
use Rattle.avs_bits.specs.BitSet.{set_of}
use Rattle.avs_mirrors.specs.Due.{Keys, noted}
use Rattle.avs_mirrors.specs.Entries.{Images, touches, with_image, written}
use Rattle.avs_mirrors.specs.Half.{Sets, with_set}
use Rattle.avs_halves.specs.SetBits.{SetBits, due_of, no_set, set_at}
use Rattle.avs_halves.specs.Changing.{ChangesSets}
use Rattle.avs_halves.proofs.Lying.{below_is}

-- ---- sets of which the bits alone have changed

pub same_lists : (f : SetBits → ℕ) (old new : List SetBits) → length new ≡ length old → ((set : ℕ) → f (set_at new set) ≡ f (set_at old set)) → map f new ≡ map f old
same_lists f old new count same = ext_get_or (f no_set) (map f new) (map f old)
    (length-map new f ∙ count ∙ sym (length-map old f))
    (λ set low. get_or-map f new set no_set ∙ same set ∙ sym (get_or-map f old set no_set))

pub same_vols : {T E : Type 0} (keys : Keys) (on : Bool) (old new : List SetBits) (r : Result T E) → ChangesSets keys on old r new → map (λ s. s.vol) new ≡ map (λ s. s.vol) old
same_vols keys on old new r c = same_lists (λ s. s.vol) old new c.count (λ set. ap (λ (s : SetBits). s.vol) (c.part set).rest)

pub same_slots : {T E : Type 0} (keys : Keys) (on : Bool) (old new : List SetBits) (r : Result T E) → ChangesSets keys on old r new → map (λ s. s.slot) new ≡ map (λ s. s.slot) old
same_slots keys on old new r c = same_lists (λ s. s.slot) old new c.count (λ set. ap (λ (s : SetBits). s.slot) (c.part set).rest)

-- ---- what is due with some segments more

-- a bit is due, and no place frees it
abbrev pub due_one : Bool → Option ℕ
due_one b = cond b (Some 0) None

noted_one : (low was key now : Bool) → now ≡ cond key true was → (key ≡ true → low ≡ true)
    → due_one (low && now) ≡ cond (is_some (due_one (low && was))) (due_one (low && was)) (due_one key)
noted_one true true true now is inside = rw is refl
noted_one true true false now is inside = rw is refl
noted_one true false true now is inside = rw is refl
noted_one true false false now is inside = rw is refl
noted_one false was true now is inside = absurd (no (inside refl))
  where
    no : false ≡ true → ⊥
    no is = cc
noted_one false was false now is inside = refl

pub all_noted : {T E : Type 0} (keys : Keys) (old new : List SetBits) (u : T) → ChangesSets {E = E} keys true old (Ok u) new → ((set seg : ℕ) → keys set seg ≡ true → nat_lt seg (set_at old set).bits.segs ≡ true) → due_of new ≡ noted (due_of old) keys
all_noted keys old new u c inside = fun_ext (λ set. fun_ext (λ seg.
    ap (λ (n : ℕ). due_one (nat_lt seg n && set_of (set_at new set).bits seg)) (ap (λ (s : SetBits). s.bits.segs) (c.part set).rest)
    ∙ noted_one (nat_lt seg (set_at old set).bits.segs) (set_of (set_at old set).bits seg) (keys set seg) (set_of (set_at new set).bits seg) ((c.done set).memory seg) (inside set seg)))

-- ---- images of which one has changed

-- the blocks of the volumes of sets
abbrev pub images_over : List Image → List ℕ → Images
images_over images vols t = cond (nat_lt t (length vols)) (get_or images (get_or vols t 0) []) []

pub images_one : (old new : List Image) (vols : List ℕ) (set : ℕ) (image : Image) → set < length vols → get_or new (get_or vols set 0) [] ≡ image
    → ((other : ℕ) → other ≢ get_or vols set 0 → get_or new other [] ≡ get_or old other [])
    → ((other : ℕ) → other < length vols → get_or vols other 0 ≡ get_or vols set 0 → other ≡ set)
    → images_over new vols ≡ with_image (images_over old vols) set image
images_one old new vols set image there is others apart = fun_ext (λ t. at t)
  where
    on : nat_lt set (length vols) ≡ true
    on = grind (arith, nat_tests)

    differs : (t : ℕ) → eqb t set ≡ false → t < length vols → get_or vols t 0 ≢ get_or vols set 0
    differs t isnt low same = no (eqb t set) (eq-eqb t set (apart t low same)) isnt
      where
        no : (b : Bool) → b ≡ true → b ≡ false → ⊥
        no b is isnt = cc

    of_old : ℕ → Image
    of_old t = cond (nat_lt t (length vols)) (get_or old (get_or vols t 0) []) []

    at : (t : ℕ) → cond (nat_lt t (length vols)) (get_or new (get_or vols t 0) []) [] ≡ cond (eqb t set) image (cond (nat_lt t (length vols)) (get_or old (get_or vols t 0) []) [])
    at t = elim (cases_Bool (eqb t set)) [
      | inl same ↦ ap (λ (k : ℕ). cond (nat_lt k (length vols)) (get_or new (get_or vols k 0) []) []) (eqb-true t set same)
          ∙ ap (λ (b : Bool). cond b (get_or new (get_or vols set 0) []) []) on ∙ is
          ∙ sym (ap (λ (b : Bool). cond b image (of_old t)) same)
      | inr other ↦ elim (cases_Bool (nat_lt t (length vols))) [
        | inl low ↦ ap (λ (b : Bool). cond b (get_or new (get_or vols t 0) []) []) low ∙ others (get_or vols t 0) (differs t other (below_is t (length vols) low))
            ∙ sym (ap (λ (b : Bool). cond b image (of_old t)) other ∙ ap (λ (b : Bool). cond b (get_or old (get_or vols t 0) []) []) low)
        | inr high ↦ ap (λ (b : Bool). cond b (get_or new (get_or vols t 0) []) []) high
            ∙ sym (ap (λ (b : Bool). cond b image (of_old t)) other ∙ ap (λ (b : Bool). cond b (get_or old (get_or vols t 0) []) []) high)
      ]
    ]

-- a set that has contents is given contents
pub with_same : (sets : Sets) (set : ℕ) → sets set ≡ true → sets ≡ with_set sets set true
with_same sets set is = fun_ext (λ t. at t)
  where
    at : (t : ℕ) → sets t ≡ cond (eqb t set) true (sets t)
    at t = elim (cases_Bool (eqb t set)) [
      | inl same ↦ ap (λ (k : ℕ). sets k) (eqb-true t set same) ∙ is ∙ sym (ap (λ (b : Bool). cond b true (sets t)) same)
      | inr other ↦ sym (ap (λ (b : Bool). cond b true (sets t)) other)
    ]

-- ---- the keys of a write

eqb_turned : (a b : ℕ) → eqb a b ≡ eqb b a
eqb_turned a b = grind (arith, nat_tests)

pub touched_are : (set at : ℕ) (bs : Image) (len : ℕ) → length bs ≡ len → (λ (t : ℕ) (seg : ℕ). eqb t set && is_inside (first_segment at) (touch_count at len) seg) ≡ touches (written set at bs)
unfolding touches
touched_are set at bs len same = fun_ext (λ t. fun_ext (λ seg.
    ap (λ (b : Bool). b && is_inside (first_segment at) (touch_count at len) seg) (eqb_turned t set)
    ∙ ap (λ (n : ℕ). eqb set t && is_inside (first_segment at) (touch_count at n) seg) (sym same)))
