-- What a half keeps, and what is due of it, once it knows a place.
use Rattle.std.proofs.Common.{◌≡◌, inl, inr, ℕ, ◌+◌, ◌-◌, ◌<◌, ◌≤◌, max, Bool, true, false, ◌&&◌, not, cond, eqb, List, All, length, Result, Ok, None, Some, ◌∙◌, sym, refl, ap, subst, arith, length-drop}
use Rattle.std.specs.Prelude.{nat_lt, nat_le}
use Rattle.std.proofs.Math.Path.{fun_ext}
use Rattle.std.proofs.lemmas.Bool.{cases_lt}
use Rattle.std.proofs.lemmas.Bool.Decides.{nat_tests}
use Rattle.std.proofs.lemmas.List.{get_or_past}
use Rattle.std.proofs.lemmas.List.Elements.{All-weaker, filter_passes}
use Rattle.avs_bits.specs.BitSet.{set_of}
use Rattle.avs_refs.specs.Places.{greatest_at, is_freed, places_above}
use Rattle.avs_mqueue.specs.Queue.{Queue, Advances}
use Rattle.avs_model.specs.declared.entry.Entry.{Entry}
use Rattle.avs_mirrors.specs.Due.{frees, freed_due}
use Rattle.avs_mirrors.specs.Half.{State, Logging, Syncing, Receiving, Replicating, Queuing, is_session, is_acting_state}
use Rattle.avs_sync.specs.Session.{hears_ticks, knows_mark, ticked, MayTick}
use Rattle.avs_sync.specs.declared.note.Note.{Note}
use Rattle.avs_sync.specs.declared.session.Session.{Session}
use Rattle.avs_halves.specs.SetBits.{SetBits, set_at, has_bit, no_set}
use Rattle.avs_halves.specs.Changing.{ChangesSets}
use Rattle.avs_sender.specs.Held.{SenderHalf, SetPlaces}
use Rattle.avs_sender.specs.Kept.{ArePlacesIn, ArePlacesOf, HaveSlots, HoldsAbove, IsDueIn, IsInSession, IsKept, IsSessionOf}
use Rattle.avs_sender.specs.Meaning.{due_of, places_at, waits}
use Rattle.avs_sender.specs.Waits.{waits_at}
use Rattle.avs_sender.specs.Freeing.{AreSizedAs, FreesEach, FreesPlaces, set_places_at}
use Rattle.avs_sender.specs.Learning.{IsTurned, half_with, known_then, learned_keys, turns}
use Rattle.avs_sender.proofs.Cleared.{freed_at, freed_due_one, frees_one, has_cleared, placed_kept, waiting_kept}

-- ---- the session

hears_if : (s : State) → is_acting_state s ≡ true → hears_ticks s ≡ true
hears_if Logging on = on
hears_if Syncing on = on
hears_if Receiving on = on
hears_if Replicating on = on
hears_if Queuing on = on

pub sends_if : (n : Note) (s : Session) → IsSessionOf n s → is_session s.state ≡ true → s.sender ≡ true
sends_if n s is on = is.sender ∙ ap (λ r. not (Rattle.avs_mirrors.specs.Half.is_receiver r)) (is.role on)

-- it may learn a place that was given
pub may_tick : (n : Note) (s : Session) (applied : ℕ) → IsSessionOf n s → is_session s.state ≡ true → applied ≤ s.last → MayTick s applied
may_tick n s applied is on given = record { sender = sends_if n s is on; state = hears_if s.state (is.acting on); given = given }

ticked_on : (b : Bool) (s : State) → is_session s ≡ true → is_session (cond b Replicating s) ≡ true
ticked_on true s on = refl
ticked_on false s on = on

pub ticked_session : (s : Session) (applied : ℕ) → is_session s.state ≡ true → is_session (ticked s applied).state ≡ true
ticked_session s applied on = ticked_on (knows_mark s (max s.known applied)) s.state on

ticked_acts : (b : Bool) (s : State) → is_acting_state s ≡ true → is_acting_state (cond b Replicating s) ≡ true
ticked_acts true s on = refl
ticked_acts false s on = on

session_then : (n : Note) (s : Session) (applied : ℕ) → IsSessionOf n s → is_session s.state ≡ true → applied ≤ s.last → IsSessionOf n (ticked s applied)
session_then n s applied is on given = record {
  number = is.number;
  reverse = is.reverse;
  sender = is.sender;
  last = is.last;
  known = let low : s.known ≤ s.last = is.known in omega arith;
  mark = is.mark;
  role = λ _. is.role on;
  acting = λ _. ticked_acts (knows_mark s (max s.known applied)) s.state (is.acting on);
  idle = is.idle;
}

-- ---- entries that leave

entries_left : (first len upto known last : ℕ) → len ≡ last - known → known ≤ last → known ≤ upto → upto ≤ last → (0 < len → first + len ≡ last + 1) → len - (upto + 1 - first) ≡ last - upto
entries_left first len upto known last count low up high next = elim (cases_lt 0 len) [
  | inl some ↦ let e : first + len ≡ last + 1 = next some in omega arith
  | inr none ↦ omega arith
]

holds_then : (s : Session) (applied : ℕ) (old new : Queue) → HoldsAbove s old → s.known ≤ s.last → applied ≤ s.last → Advances old (max s.known applied) new → HoldsAbove (ticked s applied) new
holds_then s applied old new holds low given adv = record {
  count = count;
  next = λ some. adv.next ∙ holds.next (let e : length new.entries ≡ s.last - max s.known applied = count in omega (arith, holds.count));
}
  where
    count : length new.entries ≡ s.last - max s.known applied
    count = ap (λ (l : List Entry). length l) adv.entries ∙ length-drop (max s.known applied + 1 - old.first) old.entries
        ∙ entries_left old.first (length old.entries) (max s.known applied) s.known s.last holds.count low (omega arith) (omega arith) holds.next

-- ---- places

module _ (s : Session) (applied : ℕ) (old new : SetPlaces) (in' : ArePlacesIn s old) (freed : FreesPlaces old (max s.known applied) new) where
  places_then : ArePlacesIn (ticked s applied) new
  places_then = record {
    above = freed.above (s.last + 1) in'.above;
    few = freed.few s.last (All-weaker (λ p. p < s.last + 1) (λ p. p ≤ s.last) (λ p low. omega (arith, low)) old.touched.outstanding in'.above.outstanding);
    later = subst (All (λ place. max s.known applied < place)) (sym freed.touched.outstanding)
        (All-weaker (λ p. nat_lt (max s.known applied) p ≡ true) (λ p. max s.known applied < p) (λ p on. above_is (max s.known applied) p on) (places_above (max s.known applied) old.touched.outstanding) (filter_passes (λ p. nat_lt (max s.known applied) p) old.touched.outstanding));
    drained = freed.touched.drained;
  }
    where
      above_is : (a b : ℕ) → nat_lt a b ≡ true → a < b
      above_is a b on = grind (arith, nat_tests)

  module _ (m n : SetBits) (seg : ℕ) (bits : has_bit n seg ≡ (has_bit m seg && not (is_freed old.touched (max s.known applied) seg && not ((eqb s.mark 0) && waits_at old.waiting seg)))) where
    waits_then : waits (ticked s applied) new seg ≡ waits s old seg
    waits_then = ap (λ (l : List Bool). eqb s.mark 0 && waits_at l seg) freed.waiting

    due_then : IsDueIn s m old seg → IsDueIn (ticked s applied) n new seg
    due_then due = record {
      waiting = λ on. bits ∙ waiting_kept (has_bit m seg) (is_freed old.touched (max s.known applied) seg) (waits s old seg) (sym waits_then ∙ on) (due.waiting (sym waits_then ∙ on));
      placed = λ has off. let both = placed_kept (has_bit m seg) (is_freed old.touched (max s.known applied) seg) (waits s old seg) (sym bits ∙ has) (sym waits_then ∙ off) in
          let some : 0 < greatest_at old.touched seg = due.placed both.0 (sym waits_then ∙ off) in
          let same : greatest_at new.touched seg ≡ greatest_at old.touched seg = freed.touched.greatest seg ∙ ap (λ (b : Bool). cond b 0 (greatest_at old.touched seg)) both.1 in
          omega arith;
    }

freed_key_one : (freed w : Bool) → (freed && not w) ≡ true → (freed ≡ true) × (w ≡ false)
freed_key_one true true on = absurd (no on)
  where
    no : false ≡ true → ⊥
    no is = cc
freed_key_one true false on = (refl, refl)
freed_key_one false w on = absurd (no on)
  where
    no : false ≡ true → ⊥
    no is = cc

-- of a set that is not there nothing has a bit
pub none_at : (sets : List SetBits) (set seg : ℕ) → length sets ≤ set → has_bit (set_at sets set) seg ≡ false
none_at sets set seg past = subst (λ (s : SetBits). has_bit s seg ≡ false) (sym (get_or_past sets set no_set past)) (nothing (set_of no_set.bits seg) seg)
  where
    nothing : (b : Bool) (seg : ℕ) → (nat_lt seg 0 && b) ≡ false
    nothing b seg = grind (arith, nat_tests)

-- ---- the half

-- as many segments have places as before
pub places_of : (sets new_sets : List SetBits) (old new : List SetPlaces) (writes now : ℕ) (set : ℕ) → AreSizedAs old new → (set_at new_sets set).bits.segs ≡ (set_at sets set).bits.segs → now ≡ writes
    → ArePlacesOf (set_at sets set) writes (set_places_at old set) → ArePlacesOf (set_at new_sets set) now (set_places_at new set)
places_of sets new_sets old new writes now set sized segs limits are = let one = sized.each set in record {
  segs = one.segs ∙ are.segs ∙ sym segs;
  waiting = ap (λ (l : List Bool). length l) one.waiting ∙ are.waiting ∙ sym segs;
  room = one.room ∙ are.room ∙ sym limits;
}

-- the slots are as they were
pub slots_of : {T E : Type 0} (old new : List SetBits) (keys : _) (on : Bool) (r : Result T E) → ChangesSets keys on old r new → HaveSlots old → HaveSlots new
slots_of old new keys on r c have = record {
  low = λ set there. subst (λ (n : ℕ). n < 16) (sym (slot set)) (have.low set (omega (arith, there, c.count)));
  apart = λ set other there also same. have.apart set other (omega (arith, there, c.count)) (omega (arith, also, c.count)) (sym (slot other) ∙ same ∙ slot set);
}
  where
    slot : (set : ℕ) → (set_at new set).slot ≡ (set_at old set).slot
    slot set = ap (λ (s : SetBits). s.slot) (c.part set).rest

module _ (h : SenderHalf) (applied : ℕ) (kept : IsKept h) (session : is_session h.session.state ≡ true) (given : applied ≤ h.session.last)
    (sets : List SetBits) (places : List SetPlaces) (queue : Queue) (bits : ChangesSets {T = Unit {0}} {E = Unit {0}} (learned_keys h applied) false h.sets (Ok tt) sets)
    (freed : FreesEach h.places (known_then h.session applied) places) (sized : AreSizedAs h.places places) (adv : Advances h.queue (known_then h.session applied) queue) where
  in_session : IsInSession h
  in_session = kept.sends session

  segs_then : (set : ℕ) → (set_at sets set).bits.segs ≡ (set_at h.sets set).bits.segs
  segs_then set = ap (λ (s : SetBits). s.bits.segs) (bits.part set).rest

  bit_then : (set seg : ℕ) → has_bit (set_at sets set) seg ≡ (has_bit (set_at h.sets set) seg && not (learned_keys h applied set seg))
  bit_then set seg = has_cleared (learned_keys h applied) h.sets sets tt bits set seg

  low_then : (set : ℕ) → set < length sets → set < length h.sets
  low_then set low = omega (arith, low, bits.count)

  low_places : (set : ℕ) → set < length sets → set < length h.places
  low_places set low = omega (arith, low, bits.count, kept.count)

  never : (b : Bool) → b ≡ false → b ≡ true → ⊥
  never b off on = cc

  pub kept_learned : IsKept (half_with h sets places (ticked h.session applied) queue)
  kept_learned = record {
    count = sized.count ∙ kept.count ∙ sym bits.count;
    few = omega (arith, kept.few, bits.count);
    slots = slots_of h.sets sets (learned_keys h applied) false (Ok tt) bits kept.slots;
    places = λ set low. places_of h.sets sets h.places places h.queue.limits.writes queue.limits.writes set sized (segs_then set) (ap (λ l. l.writes) adv.limits) (kept.places set (low_then set low));
    note = kept.note;
    fits = kept.fits;
    session = session_then h.note h.session applied kept.session session given;
    sends = λ on. record {
      queue = holds_then h.session applied h.queue queue in_session.queue kept.session.known given adv;
      places = λ set low. places_then h.session applied (places_at h set) (set_places_at places set) (in_session.places set (low_then set low)) (freed.each set (low_places set low));
      due = λ set seg low. due_then h.session applied (places_at h set) (set_places_at places set) (in_session.places set (low_then set low)) (freed.each set (low_places set low))
          (set_at h.sets set) (set_at sets set) seg (bit_then set seg) (in_session.due set seg (low_then set low));
    };
    away = λ off. absurd (never (is_session (ticked h.session applied).state) off (ticked_session h.session applied session));
  }

  none_place : (bit : Bool) (a b : ℕ) → bit ≡ false → bit ≡ true → a ≡ b
  none_place bit a b off on = absurd (no off on)
    where
      no : bit ≡ false → bit ≡ true → ⊥
      no off on = cc

  greatest_then : (set seg : ℕ) → has_bit (set_at h.sets set) seg ≡ true
      → greatest_at (set_places_at places set).touched seg ≡ cond (is_freed (places_at h set).touched (known_then h.session applied) seg) 0 (greatest_at (places_at h set).touched seg)
  greatest_then set seg on = elim (cases_lt set (length h.sets)) [
    | inl low ↦ (freed.each set (omega (arith, low, kept.count))).touched.greatest seg
    | inr past ↦ none_place (has_bit (set_at h.sets set) seg) (greatest_at (set_places_at places set).touched seg) (cond (is_freed (places_at h set).touched (known_then h.session applied) seg) 0 (greatest_at (places_at h set).touched seg)) (none_at h.sets set seg past) on
  ]

  due_at : (set seg : ℕ) → due_of (half_with h sets places (ticked h.session applied) queue) set seg ≡ freed_due (due_of h) (frees (due_of h) applied) set seg
  due_at set seg = elim (cases_lt set (length h.sets)) [
    | inl low ↦
        let p : SetPlaces = places_at h set in
        let q : SetPlaces = set_places_at places set in
        let bit : Bool = has_bit (set_at h.sets set) seg in
        let w : Bool = waits h.session p seg in
        let in' : ArePlacesIn h.session p = in_session.places set low in
        let f : FreesPlaces p (max h.session.known applied) q = freed.each set (omega (arith, low, kept.count)) in
        due_path (bit_then set seg) (ticked_session h.session applied session) (waits_then h.session applied p q in' f (set_at h.sets set) (set_at sets set) seg (bit_then set seg)) (greatest_at q.touched seg)
        ∙ freed_due_one applied bit (is_freed p.touched (max h.session.known applied) seg) w (greatest_at p.touched seg) (greatest_at q.touched seg) (freed_at h.session p seg applied in') (greatest_then set seg)
        ∙ sym (was_path bit w (greatest_at p.touched seg) session)
    | inr past ↦ past_path (learned_keys h applied set seg) _ _ (bit_then set seg) (none_at h.sets set seg past)
  ]
    where
      due_path : {a b c e f : Bool} → a ≡ b → c ≡ true → e ≡ f → (k : ℕ) → cond a (Some (cond c (cond e 0 k) 0)) None ≡ cond b (Some (cond f 0 k)) None
      due_path x y z k = λ i. cond (x i) (Some (cond (y i) (cond (z i) 0 k) 0)) None

      was_path : (bit w : Bool) (k : ℕ) {c : Bool} → c ≡ true
          → cond (frees_one applied (cond bit (Some (cond c (cond w 0 k) 0)) None)) None (cond bit (Some (cond c (cond w 0 k) 0)) None)
          ≡ cond (frees_one applied (cond bit (Some (cond w 0 k)) None)) None (cond bit (Some (cond w 0 k)) None)
      was_path bit w k on = λ i. cond (frees_one applied (cond bit (Some (cond (on i) (cond w 0 k) 0)) None)) None (cond bit (Some (cond (on i) (cond w 0 k) 0)) None)

      past_path : {a bit : Bool} (key : Bool) (x y : ℕ) → a ≡ (bit && not key) → bit ≡ false → cond a (Some x) None ≡ cond (frees_one applied (cond bit (Some y) None)) None (cond bit (Some y) None)
      past_path {bit = bit} key x y is off = (λ i. cond (is i) (Some x) None) ∙ (λ i. cond (off i && not key) (Some x) None) ∙ sym (λ i. cond (frees_one applied (cond (off i) (Some y) None)) None (cond (off i) (Some y) None))

  pub due_learned : due_of (half_with h sets places (ticked h.session applied) queue) ≡ freed_due (due_of h) (frees (due_of h) applied)
  due_learned = fun_ext (λ set. fun_ext (λ seg. due_at set seg))

-- what is freed is due
pub keys_freed : (h : SenderHalf) (applied : ℕ) → IsKept h → is_session h.session.state ≡ true → (set seg : ℕ) → has_bit (set_at h.sets set) seg ≡ true → learned_keys h applied set seg ≡ true → frees (due_of h) applied set seg ≡ true
keys_freed h applied kept session set seg on key = elim (cases_lt set (length h.sets)) [
  | inl low ↦
      let p : SetPlaces = places_at h set in
      let both = freed_key_one (is_freed p.touched (max h.session.known applied) seg) (waits h.session p seg) key in
      due_path on session both.1 (greatest_at p.touched seg) ∙ sym (freed_at h.session p seg applied ((kept.sends session).places set low)) ∙ both.0
  | inr past ↦ absurd (never (has_bit (set_at h.sets set) seg) (none_at h.sets set seg past) on)
]
  where
    due_path : {a b w : Bool} → a ≡ true → b ≡ true → w ≡ false → (k : ℕ) → frees_one applied (cond a (Some (cond b (cond w 0 k) 0)) None) ≡ (nat_lt 0 k && nat_le k applied)
    due_path x y z k = λ i. frees_one applied (cond (x i) (Some (cond (y i) (cond (z i) 0 k) 0)) None)

    never : (b : Bool) → b ≡ false → b ≡ true → ⊥
    never b off on = cc

-- ---- whether its state has changed

turned_is : (knows b : Bool) (s : State) → is_acting_state s ≡ true → b ≡ turns s (cond knows Replicating s) → (b ≡ true → cond knows Replicating s ≡ Replicating) × (b ≡ false → cond knows Replicating s ≡ s)
turned_is true b Syncing on is = (λ t. refl, λ f. absurd (no b (is) f))
  where
    no : (b : Bool) → b ≡ true → b ≡ false → ⊥
    no b on off = cc
turned_is false b Syncing on is = (λ t. absurd (no b is t), λ f. refl)
  where
    no : (b : Bool) → b ≡ false → b ≡ true → ⊥
    no b off on = cc
turned_is true b Replicating on is = (λ t. refl, λ f. refl)
turned_is false b Replicating on is = (λ t. refl, λ f. refl)
turned_is knows b Logging on is = absurd (no on)
  where
    no : false ≡ true → ⊥
    no is = cc
turned_is knows b Receiving on is = absurd (no on)
  where
    no : false ≡ true → ⊥
    no is = cc
turned_is knows b Queuing on is = absurd (no on)
  where
    no : false ≡ true → ⊥
    no is = cc

pub turned_then : (h g : SenderHalf) (applied : ℕ) (b : Bool) → is_acting_state h.session.state ≡ true → g.session.state ≡ (ticked h.session applied).state → b ≡ turns h.session.state (ticked h.session applied).state → IsTurned b h g
turned_then h g applied true acting state is = state ∙ (turned_is (knows_mark h.session (max h.session.known applied)) true h.session.state acting is).0 refl
turned_then h g applied false acting state is = state ∙ (turned_is (knows_mark h.session (max h.session.known applied)) false h.session.state acting is).1 refl
