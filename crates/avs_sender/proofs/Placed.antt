-- What a half keeps, and what is due of it, once an entry has the next place.
use Rattle.std.proofs.Common.{◌≡◌, ◌≢◌, inl, inr, ℕ, zero, suc, ◌+◌, ◌<◌, ◌≤◌, ◌^◌, Bool, true, false, ◌&&◌, ◌||◌, not, cond, List, [], ◌∷◌, All, length, set, get_or, Result, None, Some, ◌∙◌, sym, refl, ap, subst, arith, length-append}
use Rattle.std.specs.Prelude.{nat_lt}
use Rattle.std.proofs.lemmas.Bool.{cases_lt}
use Rattle.std.proofs.lemmas.Bool.Decides.{nat_tests}
use Rattle.std.proofs.lemmas.List.{get_or-set_same, get_or-set_other, get_or_past}
use Rattle.std.proofs.lemmas.List.Elements.{All-append, All-from_get_or, All-weaker}
use Rattle.avs_refs.specs.Places.{Adds, greatest_at, is_idle, is_touched}
use Rattle.avs_mqueue.specs.Queue.{Queue, Pushes}
use Rattle.avs_model.specs.declared.entry.Entry.{Entry}
use Rattle.avs_mirrors.specs.Due.{is_zero, placed_one}
use Rattle.avs_mirrors.specs.Half.{HalfRole, is_receiver, is_session}
use Rattle.avs_sync.specs.Session.{placed}
use Rattle.avs_sync.specs.declared.note.Note.{Note}
use Rattle.avs_sync.specs.declared.session.Session.{Session}
use Rattle.avs_halves.specs.SetBits.{SetBits, set_at}
use Rattle.avs_halves.specs.Changing.{ChangesSets}
use Rattle.avs_sender.specs.Held.{SenderHalf, SetPlaces}
use Rattle.avs_sender.specs.Kept.{ArePlacesIn, ArePlacesOf, HoldsAbove, IsInSession, IsKept, IsSessionOf}
use Rattle.avs_sender.specs.Learning.{half_with}
use Rattle.avs_sender.specs.Meaning.{no_places}
use Rattle.avs_sender.specs.Places.{places_in}
use Rattle.avs_sender.proofs.Learned.{slots_of}

-- ---- the session

never : (b : Bool) → b ≡ false → b ≡ true → ⊥
never b off on = cc

receives_not : (b : Bool) (last : ℕ) → b ≡ false → b ≡ true → last ≡ 0
receives_not b last off on = absurd (never b off on)

-- a session in which one more place was given
module _ (n : Note) (s : Session) (is : IsSessionOf n s) (on : is_session s.state ≡ true) (last : s.last < 2 ^ 62) where
  sends : is_receiver n.role ≡ false
  sends = ap (λ (r : HalfRole). is_receiver r) (is.role on)

  pub session_placed : IsSessionOf n (placed s)
  session_placed = record {
    number = is.number;
    reverse = is.reverse;
    sender = is.sender;
    last = omega (arith, last);
    known = let low : s.known ≤ s.last = is.known in omega (arith, low);
    mark = is.mark;
    role = is.role;
    acting = is.acting;
    idle = λ receives. receives_not (is_receiver n.role) (s.last + 1) sends receives;
  }

-- ---- entries

pub holds_more : (s : Session) (old new : Queue) (e : Entry) → HoldsAbove s old → s.known ≤ s.last → Pushes old (s.last + 1) e new → HoldsAbove (placed s) new
holds_more s old new e holds low pushes = record {
  count = omega (arith, ap (λ (l : List Entry). length l) pushes.entries, length-append old.entries (e ∷ []), holds.count, low);
  next = λ some. pushes.next;
}

-- ---- the places of a set

and_none : (b : Bool) → (b && false) ≡ false
and_none true = refl
and_none false = refl

-- a segment that is touched is left no more, and another is as it was
left_one : (touched : Bool) (place g g' : ℕ) (idle idle' : Bool) → g' ≡ cond touched place g → idle' ≡ cond touched false idle → (nat_lt 0 g && idle) ≡ false → (nat_lt 0 g' && idle') ≡ false
left_one true place g g' idle idle' is same none = ap (λ (b : Bool). nat_lt 0 g' && b) same ∙ and_none (nat_lt 0 g')
left_one false place g g' idle idle' is same none = ap (λ (b : Bool). nat_lt 0 g' && b) same ∙ ap (λ (k : ℕ). nat_lt 0 k && idle) is ∙ none

none_at : (idle : Bool) (g : ℕ) → g ≡ 0 → (nat_lt 0 g && idle) ≡ false
none_at idle g none = grind (arith, nat_tests)

all_one : (P : ℕ → Type 0) (x : ℕ) → P x → All P (x ∷ [])
all_one P x p = All-from_get_or P (x ∷ []) 0 at
  where
    at : (i : ℕ) → i < 1 → P (get_or (x ∷ []) i 0)
    at zero low = p
    at (suc i) low = absurd (omega (arith, low))

module _ (s : Session) (old new : SetPlaces) (in' : ArePlacesIn s old) (low : s.known ≤ s.last) where
  -- it is touched by the next place
  pub places_more : (at len : ℕ) → Adds old.touched (s.last + 1) at len new.touched → ArePlacesIn (placed s) new
  places_more at len adds = record {
    above = adds.above (s.last + 1 + 1) (omega arith);
    few = omega (arith, ap (λ (l : List ℕ). length l) adds.outstanding, length-append old.touched.outstanding ((s.last + 1) ∷ []), in'.few, low);
    later = subst (All (λ place. s.known < place)) (sym adds.outstanding)
        (All-append (λ (place : ℕ). s.known < place) old.touched.outstanding ((s.last + 1) ∷ []) in'.later (all_one (λ (place : ℕ). s.known < place) (s.last + 1) (omega (arith, low))));
    drained = record {
      none = λ seg. elim (cases_lt seg (length old.touched.greatest)) [
        | inl inside ↦ left_one (is_touched at len seg) (s.last + 1) (greatest_at old.touched seg) (greatest_at new.touched seg) (is_idle old.touched seg) (is_idle new.touched seg) (adds.greatest seg inside) (adds.idle seg inside) (in'.drained.none seg)
        | inr past ↦ none_at (is_idle new.touched seg) (greatest_at new.touched seg) (get_or_past new.touched.greatest seg 0 (omega (arith, past, adds.segs)))
      ];
    };
  }

pub places_kept : (s : Session) (p : SetPlaces) → ArePlacesIn s p → s.known ≤ s.last → ArePlacesIn (placed s) p
places_kept s p in' low = record {
  above = record {
    outstanding = weaker p.touched.outstanding in'.above.outstanding;
    greatest = weaker p.touched.greatest in'.above.greatest;
  };
  few = omega (arith, in'.few);
  later = in'.later;
  drained = in'.drained;
}
  where
    weaker : (l : List ℕ) → All (λ p. p < s.last + 1) l → All (λ p. p < s.last + 1 + 1) l
    weaker l all = All-weaker (λ (p : ℕ). p < s.last + 1) (λ (p : ℕ). p < s.last + 1 + 1) (λ p low. omega (arith, low)) l all

-- ---- one segment: whether it is touched, has and had a bit, waits and waited, and its places

pub due_one : (t b b' w w' : Bool) (g g' k : ℕ) → b' ≡ (t || b) → (w' ≡ true → w ≡ true) → (t ≡ false → w' ≡ w) → (b' ≡ true → g' ≡ cond t (k + 1) g) → (w ≡ true → b ≡ true) → (b ≡ true → w ≡ false → 0 < g)
    → (w' ≡ true → b' ≡ true) × (b' ≡ true → w' ≡ false → 0 < g')
due_one true b b' w w' g g' k bit fewer same is waiting placed = (λ on. bit, λ on off. omega (arith, is on))
due_one false b b' w w' g g' k bit fewer same is waiting placed = (λ on. bit ∙ waiting (sym (same refl) ∙ on), λ on off. omega (arith, is on, placed (sym bit ∙ on) (sym (same refl) ∙ off)))

zero_none : (k : ℕ) → 0 < k → is_zero (Some k) ≡ false
zero_none k some = grind (arith, nat_tests)

pub placed_due_one : (t copying b b' w w' : Bool) (g g' k : ℕ) → b' ≡ (t || b) → w' ≡ w → (b' ≡ true → g' ≡ cond t k g) → (w ≡ true → b ≡ true) → (b ≡ true → w ≡ false → 0 < g) → (w ≡ true → copying ≡ true)
    → cond b' (Some (cond w' 0 g')) None ≡ cond t (placed_one copying (cond b (Some (cond w 0 g)) None) k) (cond b (Some (cond w 0 g)) None)
placed_due_one true copying b b' true w' g g' k bit same is waiting placed copies =
    rw (bit, same, waiting refl, copies refl) refl
placed_due_one true copying true b' false w' g g' k bit same is waiting placed copies =
    ap (λ (x : Bool). cond x (Some (cond w' 0 g')) None) bit ∙ ap (λ (x : Bool). Some (cond x 0 g')) same ∙ ap Some (is bit)
    ∙ sym (ap (λ (x : Bool). cond (copying && x) (Some g) (Some k)) (zero_none g (placed refl refl)) ∙ ap (λ (x : Bool). cond x (Some g) (Some k)) (and_none copying))
placed_due_one true copying false b' false w' g g' k bit same is waiting placed copies =
    ap (λ (x : Bool). cond x (Some (cond w' 0 g')) None) bit ∙ ap (λ (x : Bool). Some (cond x 0 g')) same ∙ ap Some (is bit)
    ∙ sym (ap (λ (x : Bool). cond x None (Some k)) (and_none copying))
placed_due_one false copying true b' w w' g g' k bit same is waiting placed copies =
    ap (λ (x : Bool). cond x (Some (cond w' 0 g')) None) bit ∙ ap (λ (x : Bool). Some (cond x 0 g')) same ∙ ap (λ (n : ℕ). Some (cond w 0 n)) (is bit)
placed_due_one false copying false b' w w' g g' k bit same is waiting placed copies = ap (λ (x : Bool). cond x (Some (cond w' 0 g')) None) bit

pub copied_due_one : (t b w w' : Bool) (g g' k : ℕ) → (t ≡ true → b ≡ true) → w' ≡ (w && not t) → (b ≡ true → g' ≡ cond t k g) → cond b (Some (cond w' 0 g')) None ≡ cond t (Some k) (cond b (Some (cond w 0 g)) None)
copied_due_one true b true w' g g' k has same is = rw (has refl, same, is (has refl)) refl
copied_due_one true b false w' g g' k has same is = rw (has refl, same, is (has refl)) refl
copied_due_one false true true w' g g' k has same is = rw (same) refl
copied_due_one false true false w' g g' k has same is = rw (same, is refl) refl
copied_due_one false false w w' g g' k has same is = refl

-- ---- the places of all sets, of which one is another now

pub place_there : (places : List SetPlaces) (t : ℕ) (q : SetPlaces) → t < length places → places_in (set places t q) t ≡ q
place_there places t q low = get_or-set_same places t q no_places low

pub place_other : (places : List SetPlaces) (t i : ℕ) (q : SetPlaces) → i ≢ t → places_in (set places t q) i ≡ places_in places i
place_other places t i q ne = get_or-set_other places t i q no_places ne

-- ---- the half

-- it is in a session with other bits, places and entries
pub kept_with : {T E : Type 0} (keys : _) (on : Bool) (r : Result T E) (h : SenderHalf) (sets : List SetBits) (places : List SetPlaces) (s : Session) (queue : Queue) → IsKept h → ChangesSets keys on h.sets r sets → length places ≡ length h.places
    → ((t : ℕ) → t < length h.sets → ArePlacesOf (set_at h.sets t) h.queue.limits.writes (places_in places t)) → queue.limits ≡ h.queue.limits → IsSessionOf h.note s → is_session s.state ≡ true → IsInSession (half_with h sets places s queue)
    → IsKept (half_with h sets places s queue)
kept_with keys on r h sets places s queue kept c count of limits session acts in' = record {
  count = count ∙ kept.count ∙ sym c.count;
  few = omega (arith, kept.few, c.count);
  slots = slots_of h.sets sets keys on r c kept.slots;
  places = λ t low. let p = of t (omega (arith, low, c.count)) in record {
    segs = p.segs ∙ sym (segs t);
    waiting = p.waiting ∙ sym (segs t);
    room = p.room ∙ sym (ap (λ l. l.writes) limits);
  };
  note = kept.note;
  fits = kept.fits;
  session = session;
  sends = λ in''. in';
  away = λ off. absurd (never (is_session s.state) off acts);
}
  where
    segs : (t : ℕ) → (set_at sets t).bits.segs ≡ (set_at h.sets t).bits.segs
    segs t = ap (λ (x : SetBits). x.bits.segs) (c.part t).rest
