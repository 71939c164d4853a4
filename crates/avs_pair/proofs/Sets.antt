-- A set that joins a half, goes to another group or parts, and a half whose group is gone, keep what holds of the two.
use Rattle.std.proofs.Common.{◌≡◌, ◌⊎◌, inl, inr, ℕ, ◌+◌, ◌/◌, ◌<◌, ◌≤◌, Bool, true, false, ◌&&◌, nat_eq, cond, List, [], length, ◌∙◌, sym, refl, ap, subst, arith}
use Rattle.std.proofs.lemmas.Bool.Decides.{nat_tests}
use Rattle.std.proofs.lemmas.Bool.{cases_Bool, cases_lt}
use Rattle.avs_seg.specs.Image.{is_inside}
use Rattle.avs_seg.specs.Segment.{first_segment, touch_count, seg_count}
use Rattle.avs_model.specs.declared.entry.Entry.{Entry}
use Rattle.avs_mirrors.specs.Allowed.{AreAll, CanJoin, CanMove}
use Rattle.avs_mirrors.specs.Due.{Due, Segments, has, set_due}
use Rattle.avs_mirrors.specs.Entries.{Images, SameSize, after_entries, between, block_in, touches}
use Rattle.avs_mirrors.specs.Half.{HalfState, Logging, Message, Sets, is_acting, is_receiver, is_receiving, is_sender, is_sending, joined, moved, no_sets, parted, removed, with_set}
use Rattle.avs_mirrors.specs.Moves.{EndSource, EndTarget, JoinSource, JoinTarget, MoveSource, MoveTarget, PartSource, PartTarget, after}
use Rattle.avs_mirrors.specs.Pair.{PairState, Session, no_session, on_both, session_for}
use Rattle.avs_pair.specs.Cover.{HasNoPlaces}
use Rattle.avs_pair.specs.Messages.{AreFaithful}
use Rattle.avs_pair.specs.Session.{HasMark, IsFitting}
use Rattle.avs_pair.proofs.Sound.{IsClean, IsHere, IsPending, Keeps, Receives, SameOutside, SameOutsideBoth, Sends, Sound, Stands}
use Rattle.avs_pair.proofs.Images.{past_end, size_after_all, size_sym, size_then}
use Rattle.avs_pair.proofs.Dues.{mark_apart, none_in_set}
use Rattle.avs_pair.proofs.Shared.{eq_cases}
use Rattle.avs_pair.proofs.Messages.{answered_none, faithful_none}
use Rattle.avs_pair.proofs.Sources.{absent, both_on, left_on, quiet_keeps, quiet_receives, right_on}
use Rattle.avs_pair.proofs.Knowing.{logging_away, logging_sends}
use Rattle.avs_pair.proofs.Targets.{clean_away, false_true, without_set}

-- a set is the one that joined, or was there
joined_cases : (sets : Sets) (set t : ℕ) → with_set sets set true t ≡ true → (t ≡ set) ⊎ ((nat_eq t set ≡ false) × (sets t ≡ true))
joined_cases sets set t here = grind (arith, nat_tests)

joined_within : (here on : Sets) (set : ℕ) (there : Bool) → (there ≡ true → on set ≡ true) → ((t : ℕ) → here t ≡ true → on t ≡ true) → (t : ℕ) → with_set here set there t ≡ true → on t ≡ true
joined_within here on set there own old t is = elim (eq_cases t set) [
  | inl same ↦ subst (λ (n : ℕ). on n ≡ true) (sym same.1) (own (sym (ap (λ (b : Bool). cond b there (here t)) same.0) ∙ is))
  | inr apart ↦ old t (sym (ap (λ (b : Bool). cond b there (here t)) apart.0) ∙ is)
]

with_more : (sets : Sets) (set t : ℕ) → (t ≡ set) ⊎ (sets t ≡ true) → with_set sets set true t ≡ true
with_more sets set t (inl same) = grind (arith, nat_tests)
with_more sets set t (inr was) = grind (arith, nat_tests)

joined_here : (h : HalfState) (set : ℕ) → h.state ≡ Logging → IsHere h.on h.here h.state → IsHere (with_set h.on set true) (with_set h.here set true) h.state
joined_here h set away o = record {
  within = λ t is. elim (joined_cases h.here set t is) [ inl same ↦ with_more h.on set t (inl same) | inr was ↦ with_more h.on set t (inr (o.within t was.1)) ];
  away = λ t on gone. away;
}

-- what is due of another set is as before, and of the one that joined it is these segments
other_due : (due : Due) (set : ℕ) (keys : Segments) (t g : ℕ) → nat_eq t set ≡ false → has (set_due due set keys) t g ≡ false → has due t g ≡ false
other_due due set keys t g off none = grind (arith, nat_tests)

own_due : (due : Due) (set : ℕ) (keys : Segments) (t g : ℕ) → t ≡ set → has (set_due due set keys) t g ≡ false → keys g ≡ false
own_due due set keys t g is none = grind (arith, nat_tests)

-- where all segments are due, a block of another one is past the end
past_all : (keys : Segments) (n i : ℕ) → AreAll keys n → keys (i / 64) ≡ false → n ≤ i
past_all keys n i all none = elim (cases_lt (i / 64) (seg_count n)) [
  | inl lt ↦ absent (keys (i / 64)) (all.each (i / 64) lt) none
  | inr past ↦ omega arith
]

-- an entry inside its volume touches no segment past the end
past_touches : (at len n g : ℕ) → at + len ≤ n → seg_count n ≤ g → is_inside (first_segment at) (touch_count at len) g ≡ false
past_touches at len n g inside past = grind (arith, nat_tests)

past_entry : (sets : Sets) (images : Images) (keys : Segments) (e : Entry) (set g : ℕ) → IsFitting sets images e → AreAll keys (length (images set)) → keys g ≡ false → touches e set g ≡ false
unfolding touches
past_entry sets images keys e set g (inl is) all none = subst (λ (n : Entry). touches n set g ≡ false) (sym is) (mark_apart set g)
past_entry sets images keys e set g (inr o) all none = elim (eq_cases e.set set) [
  | inl same ↦ not_both (nat_eq e.set set) _ (past_touches e.at (length e.bytes) (length (images e.set)) g o.inside.high (past same.1))
  | inr apart ↦ not_first (nat_eq e.set set) _ apart.0
]
  where
    past : e.set ≡ set → seg_count (length (images e.set)) ≤ g
    past is = elim (cases_lt g (seg_count (length (images e.set)))) [
      | inl lt ↦ absent (keys g) (all.each g (subst (λ (n : ℕ). g < seg_count (length (images n))) is lt)) none
      | inr high ↦ high
    ]

    not_both : (a b : Bool) → b ≡ false → (a && b) ≡ false
    not_both a b off = grind arith

    not_first : (a b : Bool) → a ≡ false → (a && b) ≡ false
    not_first a b off = grind arith

-- blocks outside what is due of both, where a set joins the first
joined_covered : (a b : HalfState) (in_session : Bool) (set : ℕ) (keys : Segments) → CanJoin a b in_session set keys → ((t i : ℕ) → a.on t ≡ true → b.on t ≡ true → has a.due t (i / 64) ≡ false → has b.due t (i / 64) ≡ false → block_in a.images t i ≡ block_in b.images t i)
    → (t i : ℕ) → with_set a.on set true t ≡ true → b.on t ≡ true → has (set_due a.due set keys) t (i / 64) ≡ false → has b.due t (i / 64) ≡ false → block_in a.images t i ≡ block_in b.images t i
joined_covered a b in_session set keys can was t i here also none gone = elim (joined_cases a.on set t here) [
  | inl is ↦ subst (λ (n : ℕ). block_in a.images n i ≡ block_in b.images n i) (sym is)
      (own (subst (λ (n : ℕ). b.on n ≡ true) is also) (own_due a.due set keys t (i / 64) is none) (subst (λ (n : ℕ). has b.due n (i / 64) ≡ false) is gone))
  | inr old ↦ was t i old.1 also (other_due a.due set keys t (i / 64) old.0 none) gone
]
  where
    own : b.on set ≡ true → keys (i / 64) ≡ false → has b.due set (i / 64) ≡ false → block_in a.images set i ≡ block_in b.images set i
    own there off gone = elim (can.covered there) [
      | inl all ↦ sym (past_end b.images a.images set i (size_sym _ _ set (can.size there)) (past_all keys (length (a.images set)) i all off))
      | inr same ↦ same.1.each i off gone
    ]

joined_size : (a b : HalfState) (in_session : Bool) (set : ℕ) (keys : Segments) → CanJoin a b in_session set keys → ((t : ℕ) → a.on t ≡ true → b.on t ≡ true → SameSize a.images b.images t) → (t : ℕ) → with_set a.on set true t ≡ true → b.on t ≡ true → SameSize a.images b.images t
joined_size a b in_session set keys can was t here also = elim (joined_cases a.on set t here) [
  | inl is ↦ subst (λ (n : ℕ). SameSize a.images b.images n) (sym is) (can.size (subst (λ (n : ℕ). b.on n ≡ true) is also))
  | inr old ↦ was t old.1 also
]

-- where the other half is in a session, all segments of a set that joins are due
in_session_all : (a b : HalfState) (in_session : Bool) (set : ℕ) (keys : Segments) → CanJoin a b in_session set keys → in_session ≡ true → b.on set ≡ true → AreAll keys (length (a.images set))
in_session_all a b in_session set keys can is there = elim (can.covered there) [ inl all ↦ all | inr same ↦ absent in_session is same.0 ]

pub keeps_join_source : (p : PairState) (set : ℕ) (keys : Segments) (filled : Bool) → Sound p → CanJoin p.source p.target (is_receiving p.target) set keys → Sound (after p (JoinSource set keys filled))
keeps_join_source p set keys filled h can =
    let x : HalfState = p.source in
    let y : HalfState = p.target in
    let s : Session = p.session in
    let z : HalfState = joined x set keys filled in
    let source_here : IsHere z.on z.here z.state = joined_here x set can.away h.source_here in
    let source_away : is_sending x ≡ false → HasNoPlaces z.due = λ away. none_in_set x.due set keys (h.source_away away) in
    let sizes : (t : ℕ) → on_both z y t ≡ true → SameSize y.images x.images t = λ t here.
    size_sym _ _ t (joined_size x y (is_receiving y) set keys can (λ n a b. size_sym _ _ n (h.sizes n (both_on (x.on n) (y.on n) a b))) t (left_on (z.on t) (y.on t) here) (right_on (z.on t) (y.on t) here)) in
    let none_known : x.number ≡ 0 → z.known ≡ 0 = λ _. refl in
    let known : 0 < x.number → x.number ≡ y.number → 0 ≤ y.applied = λ _ _. omega arith in
    let covered : SameOutsideBoth (on_both z y) z.due y.due y.images x.images = record {
      each = λ t i here none gone.
          sym (joined_covered x y (is_receiving y) set keys can (λ n k a b c d. sym (h.covered.each n k (both_on (x.on n) (y.on n) a b) c d)) t i (left_on (z.on t) (y.on t) here) (right_on (z.on t) (y.on t) here) none gone);
    } in
    let stands : is_sending x ≡ true → Stands z s = λ a. absurd (logging_sends (is_sender x.role) x.state can.away a) in
    let receives : is_receiving y ≡ true → Receives z y s = λ r. let o = h.receives r in
    let all : (t : ℕ) → t ≡ set → on_both z y t ≡ true → AreAll keys (length (x.images t)) = λ t is here.
    subst (λ (n : ℕ). AreAll keys (length (x.images n))) (sym is) (in_session_all x y (is_receiving y) set keys can r (subst (λ (n : ℕ). y.on n ≡ true) is (right_on (z.on t) (y.on t) here))) in
    let pending : IsPending (on_both z y) z.due s.order y.applied = record {
      each = λ j e t g here le is none. elim (joined_cases x.on set t (left_on (z.on t) (y.on t) here)) [
        | inl same ↦ past_entry s.sets y.images keys e t g (o.fits.each j e is) (subst (λ (n : ℕ). AreAll keys n) (sym (sizes t here).len) (all t same here)) (own_due x.due set keys t g same none)
        | inr old ↦ o.pending.each j e t g (both_on (x.on t) (y.on t) old.1 (right_on (z.on t) (y.on t) here)) le is (other_due x.due set keys t g old.0 none)
      ];
    } in
    let covered : SameOutside (on_both z y) z.due y.images x.images = record {
      each = λ t i here none. elim (joined_cases x.on set t (left_on (z.on t) (y.on t) here)) [
        | inl same ↦ past_end y.images x.images t i (sizes t here) (past_all keys (length (x.images t)) i (all t same here) (own_due x.due set keys t (i / 64) same none))
        | inr old ↦ o.covered.each t i (both_on (x.on t) (y.on t) old.1 (right_on (z.on t) (y.on t) here)) (other_due x.due set keys t (i / 64) old.0 none)
      ];
    } in
    assumption (pending, covered, o) in
    let sends : is_sending x ≡ true → x.number ≡ y.number → Sends z y s = λ a b. absurd (logging_sends (is_sender x.role) x.state can.away a) in
    let keeps : (t : ℕ) → y.kept t ≡ true → y.number ≡ s.number → Keeps z y s t = λ t k n. quiet_keeps x z y s t (λ a. absurd (logging_sends (is_sender x.role) x.state can.away a)) (h.keeps t k n) in
    assumption (source_here, sizes, none_known, known, covered, source_away, stands, receives, sends, keeps, h)

pub keeps_join_target : (p : PairState) (set : ℕ) (keys : Segments) (filled : Bool) → Sound p → CanJoin p.target p.source (is_sending p.source) set keys → Sound (after p (JoinTarget set keys filled))
keeps_join_target p set keys filled h can =
    let x : HalfState = p.source in
    let y : HalfState = p.target in
    let s : Session = p.session in
    let z : HalfState = joined y set keys filled in
    let away : is_receiving z ≡ false = logging_away (is_receiver y.role) y.state can.away in
    let target_here : IsHere z.on z.here z.state = joined_here y set can.away h.target_here in
    let target_away : HasNoPlaces z.due = none_in_set y.due set keys h.target_away in
    let sizes : (t : ℕ) → on_both x z t ≡ true → SameSize y.images x.images t = λ t here.
    joined_size y x (is_sending x) set keys can (λ n a b. h.sizes n (both_on (x.on n) (y.on n) b a)) t (right_on (x.on t) (z.on t) here) (left_on (x.on t) (z.on t) here) in
    let covered : SameOutsideBoth (on_both x z) x.due z.due y.images x.images = record {
      each = λ t i here none gone.
          joined_covered y x (is_sending x) set keys can (λ n k a b c d. h.covered.each n k (both_on (x.on n) (y.on n) b a) d c) t i (right_on (x.on t) (z.on t) here) (left_on (x.on t) (z.on t) here) gone none;
    } in
    let receives : is_receiving z ≡ true → Receives x z s = λ r. absent (is_receiving z) r away in
    let past : is_sending x ≡ true → (t i : ℕ) → t ≡ set → on_both x z t ≡ true → IsClean z t (i / 64) → length (x.images t) ≤ i = λ a t i same here clean.
    let all : AreAll keys (length (y.images set)) = in_session_all y x (is_sending x) set keys can a (subst (λ (n : ℕ). x.on n ≡ true) same (left_on (x.on t) (z.on t) here)) in
    let behind_end : length (y.images set) ≤ i = past_all keys (length (y.images set)) i all (own_due y.due set keys t (i / 64) same (clean_away z t (i / 64) away clean)) in
    subst (λ (n : ℕ). n ≤ i) (ap (λ (k : ℕ). length (y.images k)) (sym same) ∙ (sizes t here).len) behind_end in
    let old : (t g : ℕ) → on_both x z t ≡ true → (nat_eq t set ≡ false) × (y.on t ≡ true) → IsClean z t g → (on_both x y t ≡ true) × IsClean y t g = λ t g here was clean.
    (both_on (x.on t) (y.on t) (left_on (x.on t) (z.on t) here) was.1, inr (other_due y.due set keys t g was.0 (clean_away z t g away clean))) in
    let sends : is_sending x ≡ true → x.number ≡ y.number → Sends x z s = λ a b. let o = h.sends a b in record {
      pending = o.pending;
      ahead = record {
        each = λ t i here none clean. elim (joined_cases y.on set t (right_on (x.on t) (z.on t) here)) [
          | inl same ↦ past_end (after_entries y.images (between y.applied (length s.order) s.order)) x.images t i (size_then _ _ _ t (size_after_all y.images (between y.applied (length s.order) s.order) t) (sizes t here)) (past a t i same here clean)
          | inr was ↦ let w = old t (i / 64) here was clean in o.ahead.each t i w.0 none w.1
        ];
      };
      behind = λ some reached t i here clean. elim (joined_cases y.on set t (right_on (x.on t) (z.on t) here)) [
        | inl same ↦
            let size : SameSize (after_entries s.candidate (between s.mark y.applied s.order)) x.images t = size_then _ _ _ t (size_after_all s.candidate (between s.mark y.applied s.order) t) ((h.stands a).sizes some t (left_on (x.on t) (z.on t) here)) in
            past_end y.images x.images t i (sizes t here) (past a t i same here clean) ∙ sym (past_end (after_entries s.candidate (between s.mark y.applied s.order)) x.images t i size (past a t i same here clean))
        | inr was ↦ let w = old t (i / 64) here was clean in o.behind some reached t i w.0 w.1
      ];
    } in
    let keeps : (t : ℕ) → z.kept t ≡ true → y.number ≡ s.number → Keeps x z s t = λ t k n. let w = without_set y.kept set t k in let o = h.keeps t w.1 n in record {
      size = o.size;
      behind = o.behind;
      there = o.there;
      contents = ap (λ (b : Bool). cond b filled (y.contents t)) w.0 ∙ o.contents;
    } in
    let kept_some : (t : ℕ) → z.kept t ≡ true → 0 < y.number = λ t k. h.kept_some t (without_set y.kept set t k).1 in
    let kept_on : (t : ℕ) → z.kept t ≡ true → z.on t ≡ true = λ t k. with_more y.on set t (inr (h.kept_on t (without_set y.kept set t k).1)) in
    assumption (target_here, sizes, covered, target_away, receives, sends, kept_on, kept_some, keeps, h)

-- ---- a set that parts, or goes to another group

parted_here : (h : HalfState) (set : ℕ) → h.state ≡ Logging → IsHere h.on h.here h.state → IsHere (with_set h.on set false) (with_set h.here set false) h.state
parted_here h set away o = record {
  within = λ t is. let w = without_set h.here set t is in ap (λ (b : Bool). cond b false (h.on t)) w.0 ∙ o.within t w.1;
  away = λ t on gone. away;
}

pub keeps_part_source : (p : PairState) (set : ℕ) → Sound p → p.source.state ≡ Logging → Sound (after p (PartSource set))
keeps_part_source p set h away =
    let x : HalfState = p.source in
    let y : HalfState = p.target in
    let s : Session = p.session in
    let z : HalfState = parted x set in
    let source_here : IsHere z.on z.here z.state = parted_here x set away h.source_here in
    let source_away : is_sending x ≡ false → HasNoPlaces z.due = λ away. none_in_set x.due set no_sets (h.source_away away) in
    let off : (t : ℕ) → on_both z y t ≡ true → nat_eq t set ≡ false = λ t here. (without_set x.on set t (left_on (z.on t) (y.on t) here)).0 in
    let sub : (t : ℕ) → on_both z y t ≡ true → on_both x y t ≡ true = λ t here. both_on (x.on t) (y.on t) (without_set x.on set t (left_on (z.on t) (y.on t) here)).1 (right_on (z.on t) (y.on t) here) in
    let sizes : (t : ℕ) → on_both z y t ≡ true → SameSize y.images x.images t = λ t here. h.sizes t (sub t here) in
    let none_known : x.number ≡ 0 → z.known ≡ 0 = λ _. refl in
    let known : 0 < x.number → x.number ≡ y.number → 0 ≤ y.applied = λ _ _. omega arith in
    let covered : SameOutsideBoth (on_both z y) z.due y.due y.images x.images = record { each = λ t i here none gone. h.covered.each t i (sub t here) (other_due x.due set no_sets t (i / 64) (off t here) none) gone } in
    let stands : is_sending x ≡ true → Stands z s = λ a. absurd (logging_sends (is_sender x.role) x.state away a) in
    let receives : is_receiving y ≡ true → Receives z y s = λ r. let o = h.receives r in
    let pending : IsPending (on_both z y) z.due s.order y.applied = record { each = λ j e t g here le is none. o.pending.each j e t g (sub t here) le is (other_due x.due set no_sets t g (off t here) none) } in
    let covered : SameOutside (on_both z y) z.due y.images x.images = record { each = λ t i here none. o.covered.each t i (sub t here) (other_due x.due set no_sets t (i / 64) (off t here) none) } in
    assumption (pending, covered, o) in
    let sends : is_sending x ≡ true → x.number ≡ y.number → Sends z y s = λ a b. absurd (logging_sends (is_sender x.role) x.state away a) in
    let keeps : (t : ℕ) → y.kept t ≡ true → y.number ≡ s.number → Keeps z y s t = λ t k n. quiet_keeps x z y s t (λ a. absurd (logging_sends (is_sender x.role) x.state away a)) (h.keeps t k n) in
    assumption (source_here, sizes, none_known, known, covered, source_away, stands, receives, sends, keeps, h)

pub keeps_part_target : (p : PairState) (set : ℕ) → Sound p → p.target.state ≡ Logging → Sound (after p (PartTarget set))
keeps_part_target p set h away =
    let x : HalfState = p.source in
    let y : HalfState = p.target in
    let s : Session = p.session in
    let z : HalfState = parted y set in
    let target_here : IsHere z.on z.here z.state = parted_here y set away h.target_here in
    let target_away : HasNoPlaces z.due = none_in_set y.due set no_sets h.target_away in
    let idle : is_receiving z ≡ false = logging_away (is_receiver y.role) y.state away in
    let off : (t : ℕ) → on_both x z t ≡ true → nat_eq t set ≡ false = λ t here. (without_set y.on set t (right_on (x.on t) (z.on t) here)).0 in
    let sub : (t : ℕ) → on_both x z t ≡ true → on_both x y t ≡ true = λ t here. both_on (x.on t) (y.on t) (left_on (x.on t) (z.on t) here) (without_set y.on set t (right_on (x.on t) (z.on t) here)).1 in
    let sizes : (t : ℕ) → on_both x z t ≡ true → SameSize y.images x.images t = λ t here. h.sizes t (sub t here) in
    let covered : SameOutsideBoth (on_both x z) x.due z.due y.images x.images = record { each = λ t i here none gone. h.covered.each t i (sub t here) none (other_due y.due set no_sets t (i / 64) (off t here) gone) } in
    let receives : is_receiving z ≡ true → Receives x z s = λ r. absent (is_receiving z) r idle in
    let clean : (t g : ℕ) → on_both x z t ≡ true → IsClean z t g → IsClean y t g = λ t g here c. inr (other_due y.due set no_sets t g (off t here) (clean_away z t g idle c)) in
    let sends : is_sending x ≡ true → x.number ≡ y.number → Sends x z s = λ a b. let o = h.sends a b in record {
      pending = o.pending;
      ahead = record { each = λ t i here none c. o.ahead.each t i (sub t here) none (clean t (i / 64) here c) };
      behind = λ some reached t i here c. o.behind some reached t i (sub t here) (clean t (i / 64) here c);
    } in
    let keeps : (t : ℕ) → z.kept t ≡ true → y.number ≡ s.number → Keeps x z s t = λ t k n. let w = without_set y.kept set t k in let o = h.keeps t w.1 n in record {
      size = o.size;
      behind = o.behind;
      there = o.there;
      contents = o.contents;
    } in
    let kept_some : (t : ℕ) → z.kept t ≡ true → 0 < y.number = λ t k. h.kept_some t (without_set y.kept set t k).1 in
    let kept_on : (t : ℕ) → z.kept t ≡ true → z.on t ≡ true = λ t k. let w = without_set y.kept set t k in ap (λ (b : Bool). cond b false (y.on t)) w.0 ∙ h.kept_on t w.1 in
    assumption (target_here, sizes, covered, target_away, receives, sends, kept_on, kept_some, keeps, h)

moved_here : (h : HalfState) (set : ℕ) (there : Bool) → CanMove h set there → IsHere h.on h.here h.state → IsHere h.on (with_set h.here set there) h.state
moved_here h set there can o = record { within = joined_within h.here h.on set there can.on o.within; away = λ t on gone. can.away }

pub keeps_move_source : (p : PairState) (set : ℕ) (there : Bool) → Sound p → CanMove p.source set there → Sound (after p (MoveSource set there))
keeps_move_source p set there h can =
    let x : HalfState = p.source in
    let y : HalfState = p.target in
    let s : Session = p.session in
    let z : HalfState = moved x set there in
    let source_here : IsHere z.on z.here z.state = moved_here x set there can h.source_here in
    let none_known : x.number ≡ 0 → z.known ≡ 0 = λ _. refl in
    let known : 0 < x.number → x.number ≡ y.number → 0 ≤ y.applied = λ _ _. omega arith in
    let stands : is_sending x ≡ true → Stands z s = λ a. absurd (logging_sends (is_sender x.role) x.state can.away a) in
    let receives : is_receiving y ≡ true → Receives z y s = λ r. assumption (h.receives r) in
    let sends : is_sending x ≡ true → x.number ≡ y.number → Sends z y s = λ a b. absurd (logging_sends (is_sender x.role) x.state can.away a) in
    let keeps : (t : ℕ) → y.kept t ≡ true → y.number ≡ s.number → Keeps z y s t = λ t k n. assumption (h.keeps t k n) in
    assumption (source_here, none_known, known, stands, receives, sends, keeps, h)

pub keeps_move_target : (p : PairState) (set : ℕ) (there : Bool) → Sound p → CanMove p.target set there → Sound (after p (MoveTarget set there))
keeps_move_target p set there h can =
    let x : HalfState = p.source in
    let y : HalfState = p.target in
    let s : Session = p.session in
    let z : HalfState = moved y set there in
    let target_here : IsHere z.on z.here z.state = moved_here y set there can h.target_here in
    let receives : is_receiving z ≡ true → Receives x z s = λ r. absent (is_receiving z) r (logging_away (is_receiver y.role) y.state can.away) in
    let sends : is_sending x ≡ true → x.number ≡ y.number → Sends x z s = λ a b. let o = h.sends a b in record { pending = o.pending; ahead = record { each = o.ahead.each }; behind = o.behind } in
    let keeps : (t : ℕ) → y.kept t ≡ true → y.number ≡ s.number → Keeps x z s t = λ t k n. assumption (h.keeps t k n) in
    assumption (target_here, receives, sends, keeps, h)

-- ---- a half whose group is gone

pub empty_mark : HasMark no_session
empty_mark = record { low = omega arith; behind = λ some j e le is. absurd (omega (arith, some)); alone = λ j e is. absurd (cc) }

none_faithful : (s : Session) (number n : ℕ) (ms : List Message) → ms ≡ [] → AreFaithful s number n ms
none_faithful s number n ms none = subst (λ (l : List Message). AreFaithful s number n l) (sym none) (faithful_none s number n)

-- the source's group is gone: the session stays where the target is of it, else there is none
end_source : (p : PairState) (new : Session) → Sound p → p.source.state ≡ Logging → (new ≡ p.session) × (p.target.number ≡ p.session.number) ⊎ (new ≡ no_session) × (p.target.number ≡ p.session.number → ⊥)
    → Sound (record p { source = removed p.source; session = new; messages = [] })
end_source p new h away which =
    let x : HalfState = p.source in
    let y : HalfState = p.target in
    let s : Session = p.session in
    let z : HalfState = removed x in
    let no_source : is_receiving z ≡ false = refl in
    let source_away : is_sending z ≡ false → HasNoPlaces x.due = λ _. h.source_away (logging_away (is_sender x.role) x.state away) in
    let newest : (new.number ≤ 0) ⊎ (new.number ≤ y.number) = elim which [ inl same ↦ inr (omega (arith, ap (λ (n : Session). n.number) same.0, same.1)) | inr none ↦ inl (omega (arith, ap (λ (n : Session). n.number) none.0)) ] in
    let mark : HasMark new = elim which [ inl same ↦ subst HasMark (sym same.0) h.mark | inr none ↦ subst HasMark (sym none.0) empty_mark ] in
    let applied : y.number ≡ new.number → y.applied ≤ length new.order = elim which [
      | inl same ↦ subst (λ (n : Session). y.number ≡ n.number → y.applied ≤ length n.order) (sym same.0) h.applied
      | inr none ↦ subst (λ (n : Session). y.number ≡ n.number → y.applied ≤ length n.order) (sym none.0) (λ is. omega (arith, h.none_applied is))
    ] in
    let none_known : z.number ≡ 0 → z.known ≡ 0 = λ _. refl in
    let known : 0 < 0 → 0 ≡ y.number → 0 ≤ y.applied = λ _ _. omega arith in
    let stands : is_sending z ≡ true → Stands z new = λ a. false_true a in
    let receives : is_receiving y ≡ true → Receives z y new = λ r. elim which [
      | inl same ↦ subst (λ (n : Session). Receives z y n) (sym same.0) (quiet_receives x z y s refl refl refl (h.receives r))
      | inr none ↦ absurd (none.1 (h.receives r).number)
    ] in
    let sends : is_sending z ≡ true → 0 ≡ y.number → Sends z y new = λ a b. false_true a in
    let keeps : (t : ℕ) → y.kept t ≡ true → y.number ≡ new.number → Keeps z y new t = λ t k. elim which [
      | inl same ↦ subst (λ (n : Session). y.number ≡ n.number → Keeps z y n t) (sym same.0) (λ n. quiet_keeps x z y s t (λ a. false_true a) (h.keeps t k n))
      | inr none ↦ subst (λ (n : Session). y.number ≡ n.number → Keeps z y n t) (sym none.0) (λ n. record { size = λ some. absurd (omega (arith, some)); behind = λ some reached i. absurd (omega (arith, some)); there = λ a. false_true a; contents = absurd (none_kept (h.kept_some t k) n) })
    ] in
    let messages = faithful_none new y.number y.applied in
    let told = answered_none 0 y.number (is_acting z) in
    let held : AreFaithful new y.number y.applied y.held = elim which [
      | inl same ↦ subst (λ (n : Session). AreFaithful n y.number y.applied y.held) (sym same.0) h.held
      | inr none ↦ none_faithful new y.number y.applied y.held (h.none_held (not_receiving none.1 (cases_Bool (is_receiving y))))
    ] in
    assumption (no_source, source_away, newest, mark, applied, none_known, known, stands, receives, sends, keeps, messages, told, held, h)
  where
    not_receiving : (p.target.number ≡ p.session.number → ⊥) → (is_receiving p.target ≡ true) ⊎ (is_receiving p.target ≡ false) → is_receiving p.target ≡ false
    not_receiving none (inl r) = absurd (none (h.receives r).number)
    not_receiving none (inr is) = is

    none_kept : 0 < p.target.number → p.target.number ≡ 0 → ⊥
    none_kept some is = absurd (omega (arith, some, is))

ne_of : (a b : ℕ) → nat_eq a b ≡ false → a ≡ b → ⊥
ne_of a b off is = grind (arith, nat_tests)

-- whether a session is one that a half is still of
pub session_cases : (s : Session) (number : ℕ) → (session_for s number ≡ s) × (number ≡ s.number) ⊎ (session_for s number ≡ no_session) × (number ≡ s.number → ⊥)
session_cases s number = elim (eq_cases number s.number) [
  | inl same ↦ inl (ap (λ (b : Bool). cond b s no_session) same.0, same.1)
  | inr off ↦ inr (ap (λ (b : Bool). cond b s no_session) off.0, ne_of number s.number off.0)
]

pub keeps_end_source : (p : PairState) → Sound p → p.source.state ≡ Logging → Sound (after p EndSource)
keeps_end_source p h away = end_source p (session_for p.session p.target.number) h away (session_cases p.session p.target.number)

end_target : (p : PairState) (new : Session) → Sound p → p.target.state ≡ Logging → (new ≡ p.session) × (p.source.number ≡ p.session.number) ⊎ (new ≡ no_session) × (p.source.number ≡ p.session.number → ⊥)
    → Sound (record p { target = removed p.target; session = new; messages = [] })
end_target p new h away which =
    let x : HalfState = p.source in
    let y : HalfState = p.target in
    let s : Session = p.session in
    let z : HalfState = removed y in
    let no_target : is_sending z ≡ false = refl in
    let newest : (new.number ≤ x.number) ⊎ (new.number ≤ 0) = elim which [ inl same ↦ inl (omega (arith, ap (λ (n : Session). n.number) same.0, same.1)) | inr none ↦ inr (omega (arith, ap (λ (n : Session). n.number) none.0)) ] in
    let mark : HasMark new = elim which [ inl same ↦ subst HasMark (sym same.0) h.mark | inr none ↦ subst HasMark (sym none.0) empty_mark ] in
    let applied : 0 ≡ new.number → 0 ≤ length new.order = λ _. omega arith in
    let none_applied : z.number ≡ 0 → z.applied ≡ 0 = λ _. refl in
    let known : 0 < x.number → x.number ≡ 0 → x.known ≤ 0 = λ some is. absurd (omega (arith, some, is)) in
    let stands : is_sending x ≡ true → Stands x new = λ a. let o = h.stands a in elim which [
      | inl same ↦ subst (λ (n : Session). Stands x n) (sym same.0) o
      | inr none ↦ absurd (none.1 o.number)
    ] in
    let receives : is_receiving z ≡ true → Receives x z new = λ r. false_true r in
    let sends : is_sending x ≡ true → x.number ≡ 0 → Sends x z new = λ a b. absurd (omega (arith, b, (h.stands a).some)) in
    let kept_on : (t : ℕ) → false ≡ true → y.on t ≡ true = λ t k. false_true k in
    let kept_some : (t : ℕ) → false ≡ true → 0 < 0 = λ t k. false_true k in
    let keeps : (t : ℕ) → false ≡ true → 0 ≡ new.number → Keeps x z new t = λ t k n. false_true k in
    let messages = faithful_none new 0 0 in
    let told = answered_none x.number 0 (is_acting x) in
    let held = faithful_none new 0 0 in
    let none_held : is_receiving z ≡ false → z.held ≡ [] = λ _. refl in
    assumption (no_target, newest, mark, applied, none_applied, known, stands, receives, sends, kept_on, kept_some, keeps, messages, told, held, none_held, h)

pub keeps_end_target : (p : PairState) → Sound p → p.target.state ≡ Logging → Sound (after p EndTarget)
keeps_end_target p h away = end_target p (session_for p.session p.source.number) h away (session_cases p.session p.source.number)
