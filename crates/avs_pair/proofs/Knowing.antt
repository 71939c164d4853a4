-- What the source learns, and how it leaves, keep what holds of the two.
use Rattle.std.proofs.Common.{◌≡◌, ◌⊎◌, inl, inr, ℕ, zero, suc, ◌+◌, ◌-◌, ◌/◌, ◌<◌, ◌≤◌, max, Bool, true, false, ◌&&◌, nat_eq, cond, List, [], ◌∷◌, length, drop, get_or, Option, None, Some, is_some, slice_get, ◌∙◌, sym, refl, ap, subst, arith}
use Rattle.std.proofs.lemmas.Bool.Decides.{nat_tests}
use Rattle.std.proofs.lemmas.Bool.{cases_Bool, cases_lt}
use Rattle.std.proofs.lemmas.List.{length-drop}
use Rattle.std.proofs.lemmas.Option.{same_Some, slice_get-get_or}
use Rattle.avs_model.specs.declared.entry.Entry.{Entry}
use Rattle.avs_mirrors.specs.Allowed.{CanDraw, CanFree, CanKnow, CanQueue, CanTurn, CanWeigh, IsLast}
use Rattle.avs_mirrors.specs.Due.{Due, Keys, freed_due, has, weighed_due}
use Rattle.avs_mirrors.specs.Entries.{SameSize, a_mark, block_in, greatest, touches}
use Rattle.avs_mirrors.specs.Half.{HalfState, Logging, Queuing, Replicating, HalfRole, State, drawn, forgotten, is_acting, is_acting_state, is_marked, is_receiver, is_receiving, is_sender, is_sending, is_session, left_sender, weighed, with_freed, with_reached}
use Rattle.avs_mirrors.specs.Moves.{DrawSource, Forget, Free, GoOn, Know, LeaveSource, Queue, Turn, Weigh, after}
use Rattle.avs_mirrors.specs.Pair.{PairState, Session, on_both}
use Rattle.avs_pair.specs.Cover.{HasNoPlaces}
use Rattle.avs_pair.proofs.Sound.{AreAnswered, IsAhead, IsFreed, IsHere, IsPending, Keeps, Receives, SameOutside, SameOutsideBoth, Sends, Sound, Stands, is_waiting}
use Rattle.avs_pair.proofs.Orders.{get_drop}
use Rattle.avs_pair.proofs.Dues.{IsWithin, freed_known, freed_less, none_in_zeros, pending_freed, pending_more, same_within, zeros_within}
use Rattle.avs_pair.proofs.Shared.{both_more, outside_freed, outside_more, same_now, waiting_marked}
use Rattle.avs_pair.proofs.Messages.{IsKnown, answered_when, told_is_known}
use Rattle.avs_pair.proofs.Sources.{absent, quiet_keeps}

later : (mark place : ℕ) → 0 < place → (nat_eq mark 0 && nat_eq place 0) ≡ false
later mark place some = grind (arith, nat_tests)

kept_some : (c : Bool) (o : Option ℕ) → c ≡ false → is_some (cond c None o) ≡ false → is_some o ≡ false
kept_some c o off none = grind arith

freed_some : (due : Due) (keys : Keys) (t g place : ℕ) → freed_due due keys t g ≡ Some place → 0 < place → due t g ≡ Some place
freed_some due keys t g place is some = grind arith

-- a segment that a place frees does not wait
waiting_at : (s : Session) (o : Option ℕ) (place : ℕ) → o ≡ Some place → 0 < place → is_waiting s o ≡ false
waiting_at s o place is some = subst (λ (x : Option ℕ). is_waiting s x ≡ false) (sym is) (later s.mark place some)

waiting_freed : (s : Session) (due : Due) (keys : Keys) (upto t g : ℕ) → ((t g : ℕ) → keys t g ≡ true → (place : ℕ) × (due t g ≡ Some place) × (0 < place) × (place ≤ upto)) → is_waiting s (freed_due due keys t g) ≡ false → is_waiting s (due t g) ≡ false
waiting_freed s due keys upto t g each none = elim (cases_Bool (keys t g)) [
  | inl on ↦ let k = each t g on in waiting_at s (due t g) k.0 k.1 k.2
  | inr off ↦ subst (λ (b : Bool). is_waiting s (cond b None (due t g)) ≡ false) off none
]

-- outside what is due and the target's own segments, where the source's places are known
both_freed : (x y : HalfState) (s : Session) (keys : Keys) (upto : ℕ) → upto ≤ y.applied → ((t g : ℕ) → keys t g ≡ true → (place : ℕ) × (x.due t g ≡ Some place) × (0 < place) × (place ≤ upto)) → IsFreed x.due s.order x.known → IsAhead x y s → SameOutsideBoth (on_both x y) x.due y.due y.images x.images → SameOutsideBoth (on_both x y) (freed_due x.due keys) y.due y.images x.images
both_freed x y s keys upto le each f a both = record { each = λ t i here none gone. one t i here none gone (cases_Bool (keys t (i / 64))) }
  where
    one : (t i : ℕ) → on_both x y t ≡ true → has (freed_due x.due keys) t (i / 64) ≡ false → has y.due t (i / 64) ≡ false → (keys t (i / 64) ≡ true) ⊎ (keys t (i / 64) ≡ false) → block_in y.images t i ≡ block_in x.images t i
    one t i here none gone (inl on) =
        let k = each t (i / 64) on in
        let last : IsLast s.order x.known t (i / 64) k.0 = f.each t (i / 64) k.0 k.1 k.2 in
        same_now y.images x.images y.applied s.order t i (λ j e low is. last.last j e (omega (arith, k.3)) is) (a.each t i here (waiting_at s (x.due t (i / 64)) k.0 k.1 k.2) (inr gone))
    one t i here none gone (inr off) = both.each t i here (kept_some (keys t (i / 64)) (x.due t (i / 64)) off none) gone

pub keeps_free : (p : PairState) (upto : ℕ) (keys : Keys) → Sound p → CanFree p upto keys → Sound (after p (Free upto keys))
keeps_free p upto keys h can =
    let x : HalfState = p.source in
    let y : HalfState = p.target in
    let s : Session = p.session in
    let known : IsKnown p upto = told_is_known p upto h can.told in
    let z : HalfState = with_freed x keys in
    let due : Due = z.due in
    let on : ℕ → Bool = on_both x y in
    let b : Stands x s = h.stands known.sends in
    let q : Sends x y s = h.sends known.sends known.same in
    let covered : SameOutsideBoth on due y.due y.images x.images = both_freed x y s keys upto known.reached can.each b.freed q.ahead h.covered in
    let source_away : is_sending x ≡ false → HasNoPlaces due = λ away. absent (is_sending x) known.sends away in
    let stands : is_sending x ≡ true → Stands z s = λ a. let o = h.stands a in
    let freed : IsFreed due s.order x.known = freed_less x.due due s.order x.known (freed_some x.due keys) o.freed in
    assumption (freed, o) in
    let receives : is_receiving y ≡ true → Receives z y s = λ r. let o = h.receives r in
    let pending : IsPending on due s.order y.applied = pending_freed on x.due s.order x.known keys upto y.applied known.reached can.each b.freed o.pending in
    let covered : SameOutside on due y.images x.images = outside_freed on x.due s.order x.known keys upto y.applied y.images x.images known.reached can.each b.freed
    (λ t i place here is some. q.ahead.each t i here (waiting_at s (x.due t (i / 64)) place is some) (inl r)) o.covered in
    assumption (pending, covered, o) in
    let sends : is_sending x ≡ true → x.number ≡ y.number → Sends z y s = λ a c. let o = h.sends a c in record {
      pending = pending_freed x.on x.due s.order x.known keys upto y.applied known.reached can.each b.freed o.pending;
      ahead = record { each = λ t i here none clean. o.ahead.each t i here (waiting_freed s x.due keys upto t (i / 64) can.each none) clean };
      behind = o.behind;
    } in
    let keeps : (t : ℕ) → y.kept t ≡ true → y.number ≡ s.number → Keeps z y s t = λ t k n. assumption (h.keeps t k n) in
    assumption (covered, source_away, stands, receives, sends, keeps, h)

-- a source that sends where it did, with the same bits
quiet_sends : (x z y : HalfState) (s : Session) → z.on ≡ x.on → z.due ≡ x.due → z.images ≡ x.images → Sends x y s → Sends z y s
quiet_sends x z y s on due images o = record {
  pending = rw (on, due) o.pending;
  ahead = record { each = λ t i here none clean. rw images (o.ahead.each t i (rw on at here) (rw due at none) clean) };
  behind = λ some reached t i here clean. o.behind some reached t i (rw on at here) clean;
}

pub keeps_know : (p : PairState) (upto : ℕ) → Sound p → CanKnow p upto → Sound (after p (Know upto))
keeps_know p upto h can =
    let x : HalfState = p.source in
    let y : HalfState = p.target in
    let s : Session = p.session in
    let k : IsKnown p upto = told_is_known p upto h can.told in
    let z : HalfState = with_reached x upto in
    let b : Stands x s = h.stands k.sends in
    let within : y.applied ≤ length s.order = h.applied (sym k.same ∙ b.number) in
    let above : (t g place : ℕ) → x.due t g ≡ Some place → 0 < place → max x.known upto < place = λ t g place is some. omega (arith, can.freed t g place is some, (b.freed.each t g place is some).unknown) in
    let known : 0 < x.number → x.number ≡ y.number → max x.known upto ≤ y.applied = λ some same. omega (arith, h.known some same, k.reached) in
    let none_known : x.number ≡ 0 → max x.known upto ≡ 0 = λ is. absurd (omega (arith, is, b.some)) in
    let stands : is_sending x ≡ true → Stands z s = λ a. let o = h.stands a in
    let reached : max x.known upto ≤ length s.order = omega (arith, o.reached, k.reached, within) in
    let freed : IsFreed x.due s.order (max x.known upto) = freed_known x.due s.order x.known (max x.known upto) above o.freed in
    let synced : is_marked x.state ≡ true → (0 < s.mark) × (s.mark ≤ max x.known upto) = λ m. ((o.synced m).0, omega (arith, (o.synced m).1)) in
    assumption (reached, freed, synced, o) in
    let receives : is_receiving y ≡ true → Receives z y s = λ r. assumption (h.receives r) in
    let sends : is_sending x ≡ true → x.number ≡ y.number → Sends z y s = λ a c. quiet_sends x z y s refl refl refl (h.sends a c) in
    let keeps : (t : ℕ) → y.kept t ≡ true → y.number ≡ s.number → Keeps z y s t = λ t c n. assumption (h.keeps t c n) in
    assumption (none_known, known, stands, receives, sends, keeps, h)

-- ---- the places that free segments, found again

-- the greatest place that touches a segment: none behind it does, and where there is one it does
greatest_none : (from : ℕ) (es : List Entry) (t g : ℕ) → greatest from es t g ≡ 0 → (j : ℕ) (e : Entry) → slice_get es j ≡ Some e → touches e t g ≡ false
unfolding greatest
greatest_none from [] t g is j e there = absurd (cc)
greatest_none from (x ∷ es) t g is zero e there = subst (λ (n : Entry). touches n t g ≡ false) (same_Some x e there) (first (touches x t g) (greatest (from + 1) es t g) is)
  where
    first : (b : Bool) (later : ℕ) → max (cond b (from + 1) 0) later ≡ 0 → b ≡ false
    first true later none = absurd (omega (arith, none))
    first false later none = refl
greatest_none from (x ∷ es) t g is (suc j) e there = greatest_none (from + 1) es t g (rest (touches x t g) (greatest (from + 1) es t g) is) j e there
  where
    rest : (b : Bool) (later : ℕ) → max (cond b (from + 1) 0) later ≡ 0 → later ≡ 0
    rest true later none = omega (arith, none)
    rest false later none = omega (arith, none)

-- as a place behind `from`
record IsGreatest (from : ℕ) (es : List Entry) (t g place : ℕ) : Type 0 where
  low : from < place
  high : place ≤ from + length es
  touched : (e : Entry) → slice_get es (place - from - 1) ≡ Some e → touches e t g ≡ true
  last : (j : ℕ) (e : Entry) → place ≤ from + j → slice_get es j ≡ Some e → touches e t g ≡ false

greatest_is : (from : ℕ) (es : List Entry) (t g : ℕ) → 0 < greatest from es t g → IsGreatest from es t g (greatest from es t g)
unfolding greatest
greatest_is from [] t g some = absurd (omega (arith, some))
greatest_is from (x ∷ es) t g some = elim (cases_lt 0 (greatest (from + 1) es t g)) [
  | inl later ↦
      let o : IsGreatest (from + 1) es t g (greatest (from + 1) es t g) = greatest_is (from + 1) es t g later in
      subst (λ (n : ℕ). IsGreatest from (x ∷ es) t g n) (sym (above (touches x t g) (greatest (from + 1) es t g) o.low)) (further (greatest (from + 1) es t g) o)
  | inr none ↦
      let zero_is : greatest (from + 1) es t g ≡ 0 = omega arith in
      let on : touches x t g ≡ true = here (touches x t g) (greatest (from + 1) es t g) zero_is some in
      subst (λ (n : ℕ). IsGreatest from (x ∷ es) t g n) (sym (first (touches x t g) (greatest (from + 1) es t g) zero_is on)) (record {
        low = omega arith;
        high = omega arith;
        touched = λ e there. subst (λ (n : Entry). touches n t g ≡ true) (same_Some x e (subst (λ (n : ℕ). slice_get (x ∷ es) n ≡ Some e) at_zero there)) on;
        last = λ j e le there. past j e le there zero_is;
      })
]
  where
    above : (b : Bool) (n : ℕ) → from + 1 < n → max (cond b (from + 1) 0) n ≡ n
    above true n lt = omega arith
    above false n lt = omega arith

    here : (b : Bool) (n : ℕ) → n ≡ 0 → 0 < max (cond b (from + 1) 0) n → b ≡ true
    here true n none is = refl
    here false n none is = absurd (omega (arith, is))

    first : (b : Bool) (n : ℕ) → n ≡ 0 → b ≡ true → max (cond b (from + 1) 0) n ≡ from + 1
    first true n none on = omega arith
    first false n none on = absurd (cc)

    at_zero : from + 1 - from - 1 ≡ 0
    at_zero = omega arith

    past : (j : ℕ) (e : Entry) → from + 1 ≤ from + j → slice_get (x ∷ es) j ≡ Some e → greatest (from + 1) es t g ≡ 0 → touches e t g ≡ false
    past zero e le there none = absurd (omega (arith, le))
    past (suc j) e le there none = greatest_none (from + 1) es t g none j e there

    further : (n : ℕ) → IsGreatest (from + 1) es t g n → IsGreatest from (x ∷ es) t g n
    further n o = record {
      low = omega (arith, o.low);
      high = omega (arith, o.high);
      touched = λ e there. o.touched e (down (n - from - 1) (n - (from + 1) - 1) e (omega (arith, o.low)) there);
      last = λ j e le there. behind j e le there;
    }
      where
        down : (a b : ℕ) (e : Entry) → a ≡ b + 1 → slice_get (x ∷ es) a ≡ Some e → slice_get es b ≡ Some e
        down zero b e is there = absurd (omega (arith, is))
        down (suc a) b e is there = subst (λ (k : ℕ). slice_get es k ≡ Some e) less there
          where
            less : a ≡ b
            less = omega (arith, is)

        behind : (j : ℕ) (e : Entry) → n ≤ from + j → slice_get (x ∷ es) j ≡ Some e → touches e t g ≡ false
        behind zero e le there = absurd (omega (arith, le, o.low))
        behind (suc j) e le there = o.last j e (omega (arith, le)) there

weighed_within : (due : Due) (known : ℕ) (order : List Entry) → IsWithin due (weighed_due due known order)
weighed_within due known order = record { each = λ t g none. one (has due t g) t g none }
  where
    one : (b : Bool) (t g : ℕ) → is_some (cond b (Some (greatest known (drop known order) t g)) None) ≡ false → b ≡ false
    one true t g none = absurd (cc)
    one false t g none = refl

weighed_is : (b : Bool) (n place : ℕ) → cond b (Some n) None ≡ Some place → n ≡ place
weighed_is true n place is = same_Some n place is
weighed_is false n place is = absurd (cc)

weighed_freed : (due : Due) (order : List Entry) (known : ℕ) → known ≤ length order → IsFreed (weighed_due due known order) order known
weighed_freed due order known le = record { each = λ t g place is some. last_is t g place (weighed_is (has due t g) (greatest known (drop known order) t g) place is) some }
  where
    last_is : (t g place : ℕ) → greatest known (drop known order) t g ≡ place → 0 < place → IsLast order known t g place
    last_is t g place is some =
        let o : IsGreatest known (drop known order) t g place = subst (λ (n : ℕ). IsGreatest known (drop known order) t g n) is (greatest_is known (drop known order) t g (omega (arith, is, some))) in
        let there : place - 1 ≡ known + (place - known - 1) = omega (arith, o.low) in record {
          unknown = o.low;
          low = omega (arith, o.high, length-drop known order, le);
          touched = λ e at. o.touched e (get_drop known order (place - known - 1) e (subst (λ (k : ℕ). slice_get order k ≡ Some e) there at));
          last = λ j e low at. o.last (j - known) e (omega (arith, o.low, low)) (get_drop known order (j - known) e (subst (λ (k : ℕ). slice_get order k ≡ Some e) (split j low o.low) at));
        }
      where
        split : (j : ℕ) → place ≤ j → known < place → j ≡ known + (j - known)
        split j low lt = omega arith

-- a place that frees a segment is the greatest that touches it, so it is found again
greatest_same : (order : List Entry) (known t g place : ℕ) → IsLast order known t g place → greatest known (drop known order) t g ≡ place
greatest_same order known t g place l = elim (cases_lt 0 (greatest known (drop known order) t g)) [
  | inl some ↦ both (greatest known (drop known order) t g) (greatest_is known (drop known order) t g some)
  | inr none ↦ absurd (absent_entry (greatest_none known (drop known order) t g (omega arith)))
]
  where
    -- the entry at that place
    there : slice_get order (place - 1) ≡ Some (get_or order (place - 1) a_mark)
    there = slice_get-get_or order (place - 1) a_mark (omega (arith, l.low, l.unknown))

    there_behind : slice_get (drop known order) (place - 1 - known) ≡ Some (get_or order (place - 1) a_mark)
    there_behind = get_drop known order (place - 1 - known) (get_or order (place - 1) a_mark) (subst (λ (k : ℕ). slice_get order k ≡ Some (get_or order (place - 1) a_mark)) split there)
      where
        split : place - 1 ≡ known + (place - 1 - known)
        split = omega (arith, l.unknown)

    absent_entry : ((j : ℕ) (e : Entry) → slice_get (drop known order) j ≡ Some e → touches e t g ≡ false) → ⊥
    absent_entry gone = true_false (sym (l.touched (get_or order (place - 1) a_mark) there) ∙ gone (place - 1 - known) (get_or order (place - 1) a_mark) there_behind)
      where
        true_false : true ≡ false → ⊥
        true_false is = absurd (cc)

    both : (n : ℕ) → IsGreatest known (drop known order) t g n → n ≡ place
    both n o = elim (cases_lt n place) [
      | inl low ↦ absurd (true_false (sym (l.touched (get_or order (place - 1) a_mark) there) ∙ o.last (place - 1 - known) (get_or order (place - 1) a_mark) (omega (arith, low, o.low)) there_behind))
      | inr high ↦ elim (cases_lt place n) [
        | inl above ↦ absurd (true_false (sym (o.touched (get_or order (n - 1) a_mark) (at_behind n o)) ∙ l.last (n - 1) (get_or order (n - 1) a_mark) (omega (arith, above)) (at_front n o)))
        | inr low ↦ omega (arith, low, high)
      ]
    ]
      where
        true_false : true ≡ false → ⊥
        true_false is = absurd (cc)

        parts : (n : ℕ) → known < n → n - 1 ≡ known + (n - known - 1)
        parts n low = omega arith

        at_front : (n : ℕ) → IsGreatest known (drop known order) t g n → slice_get order (n - 1) ≡ Some (get_or order (n - 1) a_mark)
        at_front n o = slice_get-get_or order (n - 1) a_mark (omega (arith, o.low, o.high, length-drop known order, l.low, l.unknown))

        at_behind : (n : ℕ) → IsGreatest known (drop known order) t g n → slice_get (drop known order) (n - known - 1) ≡ Some (get_or order (n - 1) a_mark)
        at_behind n o = get_drop known order (n - known - 1) (get_or order (n - 1) a_mark) (subst (λ (k : ℕ). slice_get order k ≡ Some (get_or order (n - 1) a_mark)) (parts n o.low) (at_front n o))

pub weighed_same : (p : PairState) → Sound p → is_sending p.source ≡ true → (t g place : ℕ) → p.source.due t g ≡ Some place → 0 < place → (weighed p.source p.session.order).due t g ≡ Some place
weighed_same p h sends t g place is some =
    subst (λ (o : Option ℕ). cond (is_some o) (Some (greatest p.source.known (drop p.source.known p.session.order) t g)) None ≡ Some place) (sym is)
    (ap Some (greatest_same p.session.order p.source.known t g place ((h.stands sends).freed.each t g place is some)))

pub keeps_weigh : (p : PairState) → Sound p → CanWeigh p → Sound (after p Weigh)
keeps_weigh p h can =
    let x : HalfState = p.source in
    let y : HalfState = p.target in
    let s : Session = p.session in
    let z : HalfState = weighed x s.order in
    let due : Due = z.due in
    let on : ℕ → Bool = on_both x y in
    let within : IsWithin x.due due = weighed_within x.due x.known s.order in
    let covered = both_more on x.due y.due due y.due y.images x.images within (same_within y.due) h.covered in
    let source_away : is_sending x ≡ false → HasNoPlaces due = λ away. absent (is_sending x) can.sends away in
    let stands : is_sending x ≡ true → Stands z s = λ a. let o = h.stands a in
    let freed : IsFreed due s.order x.known = weighed_freed x.due s.order x.known o.reached in
    assumption (freed, o) in
    let receives : is_receiving y ≡ true → Receives z y s = λ r. let o = h.receives r in
    let pending : IsPending on due s.order y.applied = pending_more on x.due due s.order y.applied within o.pending in
    let covered : SameOutside on due y.images x.images = outside_more on x.due due y.images x.images within o.covered in
    assumption (pending, covered, o) in
    let sends : is_sending x ≡ true → x.number ≡ y.number → Sends z y s = λ a b. let o = h.sends a b in record {
      pending = pending_more x.on x.due due s.order y.applied within o.pending;
      ahead = record { each = λ t i here none clean. o.ahead.each t i here (waiting_marked s (x.due t (i / 64)) can.marked) clean };
      behind = o.behind;
    } in
    let keeps : (t : ℕ) → y.kept t ≡ true → y.number ≡ s.number → Keeps z y s t = λ t k n. assumption (h.keeps t k n) in
    assumption (covered, source_away, stands, receives, sends, keeps, h)

-- ---- its state

-- a source with another state and another place taken: it sends only where it did
keeps_state : (p : PairState) (state : State) (taken : ℕ) → Sound p → is_sending p.source ≡ true → taken ≤ length p.session.order → (is_marked state ≡ true → (0 < p.session.mark) × (p.session.mark ≤ p.source.known))
    → is_receiving (record p.source { state = state }) ≡ false
    → is_sending (record p.source { state = state }) ≡ true
    → AreAnswered p.source.number p.target.number (is_acting (record p.source { state = state })) p.messages → Sound (record p { source = record p.source { state = state; taken = taken } })
keeps_state p state taken h sent within synced no_source still told =
    let x : HalfState = p.source in
    let y : HalfState = p.target in
    let s : Session = p.session in
    let z : HalfState = record x { state = state; taken = taken } in
    let o : Stands x s = h.stands sent in
    let source_here : IsHere x.on x.here state = record { within = h.source_here.within; away = λ t on gone. absent (x.on t) on (o.on t ∙ sym (o.here t) ∙ gone) } in
    let source_away : is_sending z ≡ false → HasNoPlaces x.due = λ away. absent (is_sending z) still away in
    let stands : is_sending z ≡ true → Stands z s = λ a. assumption (within, synced, o) in
    let receives : is_receiving y ≡ true → Receives z y s = λ r. assumption (h.receives r) in
    let sends : is_sending z ≡ true → x.number ≡ y.number → Sends z y s = λ a b. quiet_sends x z y s refl refl refl (h.sends sent b) in
    let keeps : (t : ℕ) → y.kept t ≡ true → y.number ≡ s.number → Keeps z y s t = λ t k n. quiet_keeps x z y s t (λ a. (h.keeps t k n).there sent) (h.keeps t k n) in
    assumption (no_source, source_here, source_away, stands, receives, sends, keeps, told, h)

sender_only : (role : HalfRole) (state other : State) → (is_sender role && is_session state) ≡ true → (is_receiver role && is_session other) ≡ false
sender_only role state other is = grind arith

sends_still : (b c : Bool) → (b && c) ≡ true → (b && true) ≡ true
sends_still b c on = grind arith

off_acts : (b : Bool) → (b && false) ≡ true → ⊥
off_acts b is = grind arith

turned_answers : (p : PairState) → Sound p → CanTurn p → AreAnswered p.source.number p.target.number (is_acting (record p.source { state = Replicating })) p.messages
turned_answers p h can = elim can.same [
  | inl acts ↦ record { each = λ k m n is got number on. h.answered.each k m n is got number acts }
  | inr same ↦ answered_when p.source.number p.target.number (is_acting (record p.source { state = Replicating })) p.messages (λ on. same)
]

pub keeps_turn : (p : PairState) → Sound p → CanTurn p → Sound (after p Turn)
keeps_turn p h can = keeps_state p Replicating p.source.taken h can.sends (h.stands can.sends).taken (λ m. (can.marked, can.known)) (sender_only p.source.role p.source.state Replicating can.sends) (sends_still (is_sender p.source.role) (is_session p.source.state) can.sends) (turned_answers p h can)

pub keeps_go_on : (p : PairState) → Sound p → CanTurn p → Sound (after p GoOn)
keeps_go_on p h can = keeps_state p Replicating p.source.known h can.sends (h.stands can.sends).reached (λ m. (can.marked, can.known)) (sender_only p.source.role p.source.state Replicating can.sends) (sends_still (is_sender p.source.role) (is_session p.source.state) can.sends) (turned_answers p h can)

pub keeps_queuing : (p : PairState) → Sound p → CanQueue p → Sound (after p Queue)
keeps_queuing p h can = keeps_state p Queuing p.source.known h can.sends (h.stands can.sends).reached (λ m. (h.stands can.sends).synced can.marked) (sender_only p.source.role p.source.state Queuing can.sends) (sends_still (is_sender p.source.role) (is_session p.source.state) can.sends)
    (answered_when p.source.number p.target.number (is_acting (record p.source { state = Queuing })) p.messages (λ on. absurd (off_acts (is_sender p.source.role) on)))

-- a source that has left: what is due may have grown, and its places may be others
pub record HasLeft (x z : HalfState) : Type 0 where
  pub on : z.on ≡ x.on
  pub here : z.here ≡ x.here
  pub images : z.images ≡ x.images
  pub due : IsWithin x.due z.due
  pub state : z.state ≡ Logging

pub logging_sends : (b : Bool) (state : State) → state ≡ Logging → (b && is_session state) ≡ true → ⊥
logging_sends b state is a = grind arith

pub logging_acts : (b : Bool) (state : State) → state ≡ Logging → (b && is_acting_state state) ≡ true → ⊥
logging_acts b state is a = grind arith

pub logging_away : (b : Bool) (state : State) → state ≡ Logging → (b && is_session state) ≡ false
logging_away b state is = grind arith

pub left_receives : (x z y : HalfState) (s : Session) → HasLeft x z → Receives x y s → Receives z y s
left_receives x z y s l o =
    let pending : IsPending (on_both z y) z.due s.order y.applied = rw l.on (pending_more (on_both x y) x.due z.due s.order y.applied l.due o.pending) in
    let covered : SameOutside (on_both z y) z.due y.images z.images = rw (l.on, l.images) (outside_more (on_both x y) x.due z.due y.images x.images l.due o.covered) in
    assumption (pending, covered, o)

keeps_left : (p : PairState) (z : HalfState) → Sound p → HasLeft p.source z → ((p.session.number ≤ z.number) ⊎ (p.session.number ≤ p.target.number)) → (z.number ≡ 0 → z.known ≡ 0) → (0 < z.number → z.number ≡ p.target.number → z.known ≤ p.target.applied)
    → HasNoPlaces z.due → Sound (record p { source = z })
keeps_left p z h l newest none_known known none =
    let x : HalfState = p.source in
    let y : HalfState = p.target in
    let s : Session = p.session in
    let no_source : is_receiving z ≡ false = logging_away (is_receiver z.role) z.state l.state in
    let source_here : IsHere z.on z.here z.state = record { within = rw (l.on, l.here) h.source_here.within; away = λ t on gone. l.state } in
    let sizes : (t : ℕ) → on_both z y t ≡ true → SameSize y.images z.images t = rw (l.on, l.images) h.sizes in
    let covered : SameOutsideBoth (on_both z y) z.due y.due y.images z.images = rw (l.on, l.images) (both_more (on_both x y) x.due y.due z.due y.due y.images x.images l.due (same_within y.due) h.covered) in
    let source_away : is_sending z ≡ false → HasNoPlaces z.due = λ _. none in
    let stands : is_sending z ≡ true → Stands z s = λ a. absurd (logging_sends (is_sender z.role) z.state l.state a) in
    let receives : is_receiving y ≡ true → Receives z y s = λ r. left_receives x z y s l (h.receives r) in
    let sends : is_sending z ≡ true → z.number ≡ y.number → Sends z y s = λ a b. absurd (logging_sends (is_sender z.role) z.state l.state a) in
    let keeps : (t : ℕ) → y.kept t ≡ true → y.number ≡ s.number → Keeps z y s t = λ t k n. quiet_keeps x z y s t (λ a. absurd (logging_sends (is_sender z.role) z.state l.state a)) (h.keeps t k n) in
    let told : AreAnswered z.number y.number (is_acting z) p.messages = answered_when z.number y.number (is_acting z) p.messages (λ on. absurd (logging_acts (is_sender z.role) z.state l.state on)) in
    assumption (no_source, source_here, sizes, newest, none_known, known, covered, source_away, stands, receives, sends, keeps, told, h)

pub keeps_leave_source : (p : PairState) → Sound p → Sound (after p LeaveSource)
keeps_leave_source p h = keeps_left p (left_sender p.source) h (record { on = refl; here = refl; images = refl; due = zeros_within p.source.due; state = refl }) h.newest h.none_known h.known (none_in_zeros p.source.due)

pub keeps_draw_source : (p : PairState) (number : ℕ) → Sound p → CanDraw p p.source number → Sound (after p (DrawSource number))
keeps_draw_source p number h can = keeps_left p (drawn p.source number) h (record { on = refl; here = refl; images = refl; due = same_within p.source.due; state = can.away }) (inl (above h.newest)) (λ _. refl) (λ _ _. omega arith)
    (h.source_away (logging_away (is_sender p.source.role) p.source.state can.away))
  where
    above : (p.session.number ≤ p.source.number) ⊎ (p.session.number ≤ p.target.number) → p.session.number ≤ number
    above (inl le) = omega (arith, can.above_source)
    above (inr le) = omega (arith, can.above_target)

pub keeps_forget : (p : PairState) → Sound p → is_sending p.source ≡ false → Sound (after p Forget)
keeps_forget p h away =
    let x : HalfState = p.source in
    let y : HalfState = p.target in
    let s : Session = p.session in
    let z : HalfState = forgotten x in
    let none_known : x.number ≡ 0 → z.known ≡ 0 = λ _. refl in
    let known : 0 < x.number → x.number ≡ y.number → 0 ≤ y.applied = λ some same. omega arith in
    let stands : is_sending x ≡ true → Stands z s = λ a. absent (is_sending x) a away in
    let receives : is_receiving y ≡ true → Receives z y s = λ r. assumption (h.receives r) in
    let sends : is_sending x ≡ true → x.number ≡ y.number → Sends z y s = λ a b. absent (is_sending x) a away in
    let keeps : (t : ℕ) → y.kept t ≡ true → y.number ≡ s.number → Keeps z y s t = λ t k n. assumption (h.keeps t k n) in
    assumption (none_known, known, stands, receives, sends, keeps, h)
