-- A write has its bits and the next place: what a half keeps then, and what is due of it.
use Rattle.std.proofs.Common.{◌≡◌, ◌≢◌, inl, inr, ℕ, ◌+◌, ◌*◌, ◌<◌, ◌≤◌, Bool, true, false, ◌&&◌, ◌||◌, cond, eqb, List, length, set, Result, Ok, Err, Option, None, Some, ◌∙◌, sym, refl, ap, subst, arith}
use Rattle.std.specs.Prelude.{nat_lt, nat_le}
use Rattle.std.proofs.Math.Path.{fun_ext}
use Rattle.std.proofs.lemmas.Bool.{cases_eq}
use Rattle.std.proofs.lemmas.Bool.Decides.{nat_tests}
use Rattle.std.proofs.lemmas.List.{length-set}
use Rattle.avs_seg.specs.Image.{is_inside}
use Rattle.avs_seg.specs.Segment.{first_segment, touch_count}
use Rattle.avs_seg.proofs.Touch.{touch_inside}
use Rattle.avs_bits.specs.BitSet.{set_of}
use Rattle.avs_refs.specs.Places.{Places, Adds, IsAbove, greatest_at, is_touched}
use Rattle.avs_mqueue.specs.Queue.{Queue, Advances, Pushes, blocks_held, blocks_of_entry}
use Rattle.avs_model.specs.declared.entry.Entry.{Entry}
use Rattle.avs_mirrors.specs.Due.{Keys, placed_due, placed_one}
use Rattle.avs_mirrors.specs.Entries.{touches}
use Rattle.avs_mirrors.specs.Half.{Logging, is_session}
use Rattle.avs_sync.specs.Session.{left, placed}
use Rattle.avs_sync.specs.declared.session.Session.{Session}
use Rattle.avs_halves.specs.SetBits.{SetBits, set_at, has_bit}
use Rattle.avs_halves.specs.Changing.{ChangesSets, run_of}
use Rattle.avs_sender.specs.Held.{SenderHalf, SetPlaces}
use Rattle.avs_sender.specs.Kept.{ArePlacesIn, ArePlacesOf, IsDueIn, IsInSession, IsKept}
use Rattle.avs_sender.specs.Learning.{half_with}
use Rattle.avs_sender.specs.Meaning.{due_of, waits}
use Rattle.avs_sender.specs.Places.{places_in}
use Rattle.avs_sender.specs.Waits.{waits_at}
use Rattle.avs_sender.specs.Placing.{HasPlaced, HasRoom, IsEntryOver, PlacesInPart}
use Rattle.avs_halves.proofs.Following.{changes_err, changes_ok}
use Rattle.avs_sender.proofs.LearnedHalf.{kept_stopped, same_sized}
use Rattle.avs_sender.proofs.Noted.{AreInside}
use Rattle.avs_sender.proofs.Placed.{due_one, holds_more, kept_with, place_other, place_there, placed_due_one, places_kept, places_more, session_placed}

-- ---- which segments an entry touches

eqb_same : (n : ℕ) → eqb n n ≡ true
eqb_same n = grind (arith, nat_tests)

eqb_apart : (a b : ℕ) → b ≢ a → eqb a b ≡ false
eqb_apart a b ne = grind (arith, nat_tests)

pub touches_here : (e : Entry) (seg : ℕ) → touches e e.set seg ≡ is_touched e.at (length e.bytes) seg
unfolding touches
touches_here e seg = ap (λ (b : Bool). b && is_touched e.at (length e.bytes) seg) (eqb_same e.set)

pub touches_other : (e : Entry) (t seg : ℕ) → t ≢ e.set → touches e t seg ≡ false
unfolding touches
touches_other e t seg ne = ap (λ (b : Bool). b && is_touched e.at (length e.bytes) seg) (eqb_apart e.set t ne)

touched_high : (at len seg : ℕ) → is_touched at len seg ≡ true → seg < first_segment at + touch_count at len
touched_high at len seg on = grind (arith, nat_tests)

low_on : (a b : ℕ) → a < b → nat_lt a b ≡ true
low_on a b low = grind (arith, nat_tests)

low_is : (a b : ℕ) (x : Bool) → (nat_lt a b && x) ≡ true → a < b
low_is a b x on = grind (arith, nat_tests)

never : (b : Bool) → b ≡ false → b ≡ true → ⊥
never b off on = cc

eqb_turned : (a b : ℕ) → eqb a b ≡ eqb b a
eqb_turned a b = grind (arith, nat_tests)

-- they are segments of its set
pub touches_inside : (h : SenderHalf) (e : Entry) (at len : ℕ) → IsEntryOver h e at len → AreInside h.sets (touches e)
touches_inside h e at len over = record {
  each = λ t seg on. elim (cases_eq t e.set) [
    | inl same ↦
        let here : is_touched e.at (length e.bytes) seg ≡ true = sym (touches_here e seg) ∙ ap (λ (k : ℕ). touches e k seg) (sym same) ∙ on in
        let high : seg < first_segment e.at + touch_count e.at (length e.bytes) = touched_high e.at (length e.bytes) seg here in
        let some : 0 < length e.bytes = omega (arith, over.some, over.count) in
        let fits : e.at + length e.bytes ≤ 64 * (set_at h.sets e.set).bits.segs = omega (arith, over.inside, over.at_is, over.count) in
        let within = touch_inside e.at (length e.bytes) (64 * (set_at h.sets e.set).bits.segs) some fits in
        subst (λ (k : ℕ). nat_lt seg (set_at h.sets k).bits.segs ≡ true) (sym same) (low_on seg (set_at h.sets e.set).bits.segs (omega (arith, high, within)))
    | inr ne ↦ absurd (never (touches e t seg) (touches_other e t seg ne) on)
  ];
}

-- ---- bits that were set

bit_one : (low key was now : Bool) → now ≡ cond key true was → (key ≡ true → low ≡ true) → (low && now) ≡ (key || (low && was))
bit_one true true was now is inside = is
bit_one true false was now is inside = is
bit_one false true was now is inside = inside refl
bit_one false false was now is inside = refl

pub has_noted : {T E : Type 0} (keys : Keys) (old new : List SetBits) (x : T) → ChangesSets {E = E} keys true old (Ok x) new → AreInside old keys → (set seg : ℕ) → has_bit (set_at new set) seg ≡ (keys set seg || has_bit (set_at old set) seg)
has_noted keys old new x c inside set seg =
    ap (λ (n : ℕ). nat_lt seg n && set_of (set_at new set).bits seg) (ap (λ (s : SetBits). s.bits.segs) (c.part set).rest)
    ∙ bit_one (nat_lt seg (set_at old set).bits.segs) (keys set seg) (set_of (set_at old set).bits seg) (set_of (set_at new set).bits seg) ((c.done set).memory seg) (inside.each set seg)

-- ---- the half

left_of : (a b : Bool) → (a && b) ≡ true → a ≡ true
left_of true b on = refl
left_of false b on = absurd (no on)
  where
    no : false ≡ true → ⊥
    no is = cc

module _ (h : SenderHalf) (e : Entry) (at len : ℕ) (kept : IsKept h) (room : HasRoom h e) (over : IsEntryOver h e at len)
    (sets : List SetBits) (q : Places) (queue : Queue) (c : ChangesSets {T = Unit {0}} {E = Unit {0}} (touches e) true h.sets (Ok tt) sets)
    (adds : Adds (places_in h.places e.set).touched (h.session.last + 1) e.at (length e.bytes) q) (pushes : Pushes h.queue (h.session.last + 1) e queue) where
  abbrev was : SetPlaces
  was = places_in h.places e.set

  abbrev now : SetPlaces
  now = record { touched = q; waiting = (places_in h.places e.set).waiting }

  abbrev pub places_then : List SetPlaces
  places_then = set h.places e.set (record { touched = q; waiting = (places_in h.places e.set).waiting })

  in_session : IsInSession h
  in_session = kept.sends room.session

  there : e.set < length h.places
  there = omega (arith, over.there, kept.count)

  -- what holds of this set now, and of each other one, holds of each
  each : (P : ℕ → SetPlaces → Type 0) → P e.set now → ((t : ℕ) → t ≢ e.set → P t (places_in h.places t)) → (t : ℕ) → P t (places_in places_then t)
  each P here others t = elim (cases_eq t e.set) [
    | inl same ↦ subst (λ (k : ℕ). P k (places_in places_then k)) (sym same) (subst (λ (p : SetPlaces). P e.set p) (sym (place_there h.places e.set now there)) here)
    | inr ne ↦ subst (λ (p : SetPlaces). P t p) (sym (place_other h.places e.set t now ne)) (others t ne)
  ]

  bit_then : (t seg : ℕ) → has_bit (set_at sets t) seg ≡ (touches e t seg || has_bit (set_at h.sets t) seg)
  bit_then t seg = has_noted (touches e) h.sets sets tt c (touches_inside h e at len over) t seg

  bit_here : (seg : ℕ) → has_bit (set_at sets e.set) seg ≡ (is_touched e.at (length e.bytes) seg || has_bit (set_at h.sets e.set) seg)
  bit_here seg = bit_then e.set seg ∙ ap (λ (b : Bool). b || has_bit (set_at h.sets e.set) seg) (touches_here e seg)

  bit_other : (t seg : ℕ) → t ≢ e.set → has_bit (set_at sets t) seg ≡ has_bit (set_at h.sets t) seg
  bit_other t seg ne = bit_then t seg ∙ ap (λ (b : Bool). b || has_bit (set_at h.sets t) seg) (touches_other e t seg ne)

  segs_then : (set_at sets e.set).bits.segs ≡ (set_at h.sets e.set).bits.segs
  segs_then = ap (λ (s : SetBits). s.bits.segs) (c.part e.set).rest

  of_here : ArePlacesOf (set_at h.sets e.set) h.queue.limits.writes was
  of_here = kept.places e.set over.there

  greatest_then : (seg : ℕ) → has_bit (set_at sets e.set) seg ≡ true → greatest_at q seg ≡ cond (is_touched e.at (length e.bytes) seg) (h.session.last + 1) (greatest_at was.touched seg)
  greatest_then seg on = adds.greatest seg (omega (arith, low_is seg (set_at sets e.set).bits.segs (set_of (set_at sets e.set).bits seg) on, segs_then, of_here.segs))

  due_here : (seg : ℕ) → IsDueIn (placed h.session) (set_at sets e.set) now seg
  due_here seg =
      let d = in_session.due e.set seg over.there in
      let both = due_one (is_touched e.at (length e.bytes) seg) (has_bit (set_at h.sets e.set) seg) (has_bit (set_at sets e.set) seg) (waits h.session was seg) (waits h.session was seg) (greatest_at was.touched seg) (greatest_at q seg) h.session.last
      (bit_here seg) (λ on. on) (λ off. refl) (greatest_then seg) d.waiting d.placed in
      record { waiting = both.0; placed = both.1 }

  due_other : (t seg : ℕ) → t < length h.sets → t ≢ e.set → IsDueIn (placed h.session) (set_at sets t) (places_in h.places t) seg
  due_other t seg low ne = let d = in_session.due t seg low in record {
    waiting = λ on. bit_other t seg ne ∙ d.waiting on;
    placed = λ has off. d.placed (sym (bit_other t seg ne) ∙ has) off;
  }

  pub kept_placed : IsKept (half_with h sets places_then (placed h.session) queue)
  kept_placed = kept_with (touches e) true (Ok tt) h sets places_then (placed h.session) queue kept c (length-set h.places e.set now)
      (each (λ t p. t < length h.sets → ArePlacesOf (set_at h.sets t) h.queue.limits.writes p)
      (λ low. record { segs = adds.segs ∙ of_here.segs; waiting = of_here.waiting; room = adds.room ∙ of_here.room })
      (λ t ne low. kept.places t low))
      pushes.limits (session_placed h.note h.session kept.session room.session room.last) room.session
      (record {
        queue = holds_more h.session h.queue queue e in_session.queue kept.session.known pushes;
        places = λ t low. each (λ t p. t < length h.sets → ArePlacesIn (placed h.session) p)
            (λ low. places_more h.session was now (in_session.places e.set over.there) kept.session.known e.at (length e.bytes) adds)
            (λ t ne low. places_kept h.session (places_in h.places t) (in_session.places t low) kept.session.known)
            t (omega (arith, low, c.count));
        due = λ t seg low. each (λ t p. t < length h.sets → IsDueIn (placed h.session) (set_at sets t) p seg)
            (λ low. due_here seg)
            (λ t ne low. due_other t seg low ne)
            t (omega (arith, low, c.count));
      })

  -- what is due in a session
  abbrev in_state : Bool → Bool → Bool → ℕ → Option ℕ
  in_state bit on w k = cond bit (Some (cond on (cond w 0 k) 0)) None

  on_path : (bit w : Bool) (k : ℕ) → in_state bit (is_session h.session.state) w k ≡ cond bit (Some (cond w 0 k)) None
  on_path bit w k = ap (λ (b : Bool). in_state bit b w k) room.session

  due_at : (seg t : ℕ) → in_state (has_bit (set_at sets t) seg) (is_session h.session.state) (waits h.session (places_in places_then t) seg) (greatest_at (places_in places_then t).touched seg)
      ≡ placed_due (due_of h) (eqb h.session.mark 0) e (h.session.last + 1) t seg
  due_at seg = each (λ t p. in_state (has_bit (set_at sets t) seg) (is_session h.session.state) (waits h.session p seg) (greatest_at p.touched seg) ≡ placed_due (due_of h) (eqb h.session.mark 0) e (h.session.last + 1) t seg)
      (on_path (has_bit (set_at sets e.set) seg) (waits h.session was seg) (greatest_at q seg)
      ∙ placed_due_one (is_touched e.at (length e.bytes) seg) (eqb h.session.mark 0) (has_bit (set_at h.sets e.set) seg) (has_bit (set_at sets e.set) seg) (waits h.session was seg) (waits h.session was seg)
      (greatest_at was.touched seg) (greatest_at q seg) (h.session.last + 1) (bit_here seg) refl (greatest_then seg) (in_session.due e.set seg over.there).waiting (in_session.due e.set seg over.there).placed
      (λ on. left_of (eqb h.session.mark 0) (waits_at was.waiting seg) on)
      ∙ sym (ap (λ (d : Option ℕ). cond (is_touched e.at (length e.bytes) seg) (placed_one (eqb h.session.mark 0) d (h.session.last + 1)) d) (on_path (has_bit (set_at h.sets e.set) seg) (waits h.session was seg) (greatest_at was.touched seg)))
      ∙ sym (ap (λ (b : Bool). cond b (placed_one (eqb h.session.mark 0) (due_of h e.set seg) (h.session.last + 1)) (due_of h e.set seg)) (touches_here e seg)))
      (λ t ne. ap (λ (b : Bool). in_state b (is_session h.session.state) (waits h.session (places_in h.places t) seg) (greatest_at (places_in h.places t).touched seg)) (bit_other t seg ne)
      ∙ sym (ap (λ (b : Bool). cond b (placed_one (eqb h.session.mark 0) (due_of h t seg) (h.session.last + 1)) (due_of h t seg)) (touches_other e t seg ne)))

  pub has_placed : HasPlaced h e (half_with h sets places_then (placed h.session) queue)
  has_placed = record {
    rest = refl;
    bits = c;
    queue = pushes;
    due = fun_ext (λ t. fun_ext (λ seg. due_at seg t));
    number = kept.session.number;
  }

-- ---- as the code has it

-- the run of segments that it notes
pub run_is : (e : Entry) (at len first count : ℕ) → e.at ≡ at → length e.bytes ≡ len → first ≡ first_segment at → count ≡ touch_count at len → run_of e.set first count ≡ touches e
unfolding touches
run_is e at len first count at_is len_is first_is count_is = fun_ext (λ t. fun_ext (λ seg.
    ap (λ (b : Bool). b && is_inside first count seg) (eqb_turned t e.set)
    ∙ ap (λ (n : ℕ). eqb e.set t && is_inside n count seg) (first_is ∙ ap first_segment (sym at_is))
    ∙ ap (λ (n : ℕ). eqb e.set t && is_inside (first_segment e.at) n seg) (count_is ∙ ap (λ (n : ℕ). touch_count n len) (sym at_is) ∙ ap (λ (n : ℕ). touch_count e.at n) (sym len_is))))

module _ (h : SenderHalf) (writes : ℕ) (e : Entry) (at len first count : ℕ) (both : IsKept h × (writes ≡ h.queue.limits.writes)) (room : HasRoom h e) (over : IsEntryOver h e at len)
    (first_is : first ≡ first_segment at) (count_is : count ≡ touch_count at len) (sets : List SetBits) (session : Session) (queue : Queue) where
  keys_then : {T E : Type 0} (r : Result T E) → ChangesSets (run_of e.set first count) true h.sets r sets → ChangesSets (touches e) true h.sets r sets
  keys_then r c = subst (λ (k : Keys). ChangesSets k true h.sets r sets) (run_is e at len first count over.at_is over.count first_is count_is) c

  -- done
  module _ {T E : Type 0} (was : SetPlaces) (q : Places) (places : List SetPlaces) (x : T) (is : places_in h.places e.set ≡ was) (c : ChangesSets {E = E} (run_of e.set first count) true h.sets (Ok x) sets) (adds : Adds was.touched (h.session.last + 1) at len q)
      (pushes : Pushes h.queue (h.session.last + 1) e queue) (placed_is : session ≡ placed h.session) (set_is : places ≡ set h.places e.set (record { touched = q; waiting = was.waiting })) where
    changes : ChangesSets {T = Unit {0}} {E = Unit {0}} (touches e) true h.sets (Ok tt) sets
    changes = changes_ok (touches e) true h.sets sets x tt (keys_then (Ok x) c)

    adds_then : Adds (places_in h.places e.set).touched (h.session.last + 1) e.at (length e.bytes) q
    adds_then = subst (λ (p : SetPlaces). Adds p.touched (h.session.last + 1) e.at (length e.bytes) q) (sym is)
        (subst (λ (n : ℕ). Adds was.touched (h.session.last + 1) n (length e.bytes) q) (sym over.at_is) (subst (λ (n : ℕ). Adds was.touched (h.session.last + 1) at n q) (sym over.count) adds))

    places_are : set h.places e.set (record { touched = q; waiting = (places_in h.places e.set).waiting }) ≡ places
    places_are = ap (λ (p : SetPlaces). set h.places e.set (record { touched = q; waiting = p.waiting })) is ∙ sym set_is

    pub writes_kept : IsKept (half_with h sets places session queue) × (writes ≡ queue.limits.writes)
    writes_kept = (
      subst (λ (s : Session). IsKept (half_with h sets places s queue)) (sym placed_is) (subst (λ (l : List SetPlaces). IsKept (half_with h sets l (placed h.session) queue)) places_are
          (kept_placed h e at len both.0 room over sets q queue changes adds_then pushes)),
      both.1 ∙ ap (λ l. l.writes) (sym pushes.limits),
    )

    pub writes_placed : HasPlaced h e (half_with h sets places session queue)
    writes_placed = subst (λ (s : Session). HasPlaced h e (half_with h sets places s queue)) (sym placed_is) (subst (λ (l : List SetPlaces). HasPlaced h e (half_with h sets l (placed h.session) queue)) places_are
        (has_placed h e at len both.0 room over sets q queue changes adds_then pushes))

  -- the disk of the bitmap failed
  module _ {T E : Type 0} (x : E) (c : ChangesSets {T = T} (run_of e.set first count) true h.sets (Err x) sets) (adv : Advances h.queue h.session.last queue) (left_is : session ≡ left h.session Logging) where
    pub stops_kept : IsKept (half_with h sets h.places session queue) × (writes ≡ queue.limits.writes)
    stops_kept = (subst (λ (s : Session). IsKept (half_with h sets h.places s queue)) (sym left_is) (kept_stopped h (touches e) true (Err x) sets h.places queue both.0 (keys_then (Err x) c) (same_sized h.places) adv), both.1 ∙ ap (λ l. l.writes) (sym adv.limits))

    pub stops_placed : PlacesInPart h e x (half_with h sets h.places session queue)
    stops_placed = record {
      rest = ap (λ (s : Session). half_with h sets h.places s queue) left_is;
      bits = changes_err (touches e) true h.sets sets x x (keys_then (Err x) c);
      limits = adv.limits;
      number = both.0.session.number;
    }

-- a place more may be outstanding
below_full : (writes held blocks more : ℕ) → (nat_le writes held || nat_lt blocks more) ≡ false → held < writes
below_full writes held blocks more off = grind (arith, nat_tests)

pub room_left : (h : SenderHalf) (e : Entry) (now_is : SetPlaces) → IsKept h → HasRoom h e → e.set < length h.sets → places_in h.places e.set ≡ now_is → length now_is.touched.outstanding < now_is.touched.room
room_left h e now_is kept room there is = subst (λ (p : SetPlaces). length p.touched.outstanding < p.touched.room) is
    (let p = (kept.sends room.session).places e.set there in
    let of = kept.places e.set there in
    omega (arith, below_full h.queue.limits.writes (length h.queue.entries) h.queue.limits.blocks (blocks_held h.queue + blocks_of_entry e) room.room, p.few, of.room, (kept.sends room.session).queue.count))

pub rises : (h : SenderHalf) (e : Entry) (now_is : SetPlaces) → IsKept h → HasRoom h e → e.set < length h.sets → places_in h.places e.set ≡ now_is → IsAbove (h.session.last + 1) now_is.touched
rises h e now_is kept room there is = subst (λ (p : SetPlaces). IsAbove (h.session.last + 1) p.touched) is ((kept.sends room.session).places e.set there).above
