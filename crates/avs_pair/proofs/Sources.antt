-- Moves of the half that sends keep what holds of the two: its bits, its own changes, and places.
use Rattle.std.proofs.Common.{◌≡◌, ◌≢◌, ◌⊎◌, inl, inr, ℕ, ◌+◌, ◌-◌, ◌*◌, ◌/◌, ◌<◌, ◌≤◌, Bool, true, false, ◌&&◌, nat_eq, cond, List, [], ◌∷◌, ◌++◌, length, Some, is_some, slice_get, ◌∙◌, sym, refl, ap, subst, arith}
use Rattle.std.specs.Prelude.{nat_le, nat_lt}
use Rattle.std.proofs.lemmas.Bool.Decides.{nat_tests}
use Rattle.std.proofs.lemmas.Bool.{cases_Bool}
use Rattle.std.proofs.lemmas.List.{length_push}
use Rattle.std.proofs.lemmas.Option.{slice_get_within, slice_get-get_or}
use Rattle.avs_seg.specs.Image.{Image}
use Rattle.avs_seg.proofs.Blocks.{same_images}
use Rattle.avs_seg.proofs.Cuts.{length-segment}
use Rattle.avs_model.specs.declared.entry.Entry.{Entry}
use Rattle.avs_model.specs.declared.entry.EntryKind.TheVariants.{Write}
use Rattle.avs_mirrors.specs.Allowed.{CanCopy, CanMark, CanPlace, CanTake, ChangesInside}
use Rattle.avs_mirrors.specs.Due.{Due, copied_due, has, is_zero, noted}
use Rattle.avs_mirrors.specs.Entries.{Images, SameSize, a_mark, after_entries, after_entry, between, block_in, copy_of, is_mark, touches, written}
use Rattle.avs_mirrors.specs.Half.{HalfState, Message, Sets, is_acting, is_marked, is_receiving, is_sending, knows_mark, with_change, with_copy, with_mark, with_place, with_taken}
use Rattle.avs_mirrors.specs.Moves.{ChangeSource, NoteSource, PlaceCopy, PlaceMark, PlaceWrite, Take, after, marked, taken_message}
use Rattle.avs_mirrors.specs.Pair.{PairState, Session, is_copying, next_place, on_both, with_entry}
use Rattle.avs_pair.specs.Cover.{HasNoPlaces}
use Rattle.avs_pair.specs.Messages.{IsFaithful}
use Rattle.avs_pair.specs.Session.{AreFitting, HasMark, IsFitting}
use Rattle.avs_pair.proofs.Sound.{IsAhead, IsBefore, IsBlockBehind, IsClean, IsFreed, IsOnce, IsPending, Keeps, Receives, SameOutside, Sends, Sound, Stands, is_waiting}
use Rattle.avs_pair.proofs.Images.{copy_elsewhere, copy_once, copy_touches, once_more, size_after, size_same, size_sym, size_then, untouched}
use Rattle.avs_pair.proofs.Orders.{between_more, slice_get_push}
use Rattle.avs_pair.proofs.Dues.{IsWithin, copied_within, freed_copied, freed_less, freed_placed, freed_push, mark_apart, none_in_noted, noted_within, pending_more, pending_push, placed_touched, placed_within, same_within}
use Rattle.avs_pair.proofs.Shared.{IsInsideDue, both_changed_source, both_more, both_source, changes_inside, outside_changed, outside_more, outside_source, same_apart, same_copy, same_write, waiting_noted, waiting_placed}
use Rattle.avs_pair.proofs.Messages.{answered_cons, faithful_cons, faithful_push}

pub absent : {A : Type 0} (b : Bool) → b ≡ true → b ≡ false → A
absent b on off = absurd (cc)

pub left_on : (b c : Bool) → (b && c) ≡ true → b ≡ true
left_on b c on = grind arith

pub right_on : (b c : Bool) → (b && c) ≡ true → c ≡ true
right_on b c on = grind arith

pub both_on : (b c : Bool) → b ≡ true → c ≡ true → (b && c) ≡ true
both_on b c on also = grind arith

-- ---- what stays where other parts of the source change

-- its number, its state, or what it knows
pub quiet_receives : (x z y : HalfState) (s : Session) → z.on ≡ x.on → z.due ≡ x.due → z.images ≡ x.images → Receives x y s → Receives z y s
quiet_receives x z y s on due images o = let pending : IsPending (on_both z y) z.due s.order y.applied = rw (on, due) o.pending in
    let covered : SameOutside (on_both z y) z.due y.images z.images = rw (on, due, images) o.covered in
    assumption (pending, covered, o)

pub quiet_keeps : (x z y : HalfState) (s : Session) (set : ℕ) → (is_sending z ≡ true → z.on set ≡ true) → Keeps x y s set → Keeps z y s set
quiet_keeps x z y s set there o = record { size = o.size; behind = o.behind; there = there; contents = o.contents }

-- ---- bits

noted_some : (due : Due) (keys : ℕ → ℕ → Bool) (t g place : ℕ) → noted due keys t g ≡ Some place → 0 < place → due t g ≡ Some place
noted_some due keys t g place is some = grind arith

pub keeps_note_source : (p : PairState) (keys : ℕ → ℕ → Bool) → Sound p → Sound (after p (NoteSource keys))
keeps_note_source p keys h =
    let x : HalfState = p.source in
    let y : HalfState = p.target in
    let s : Session = p.session in
    let due : Due = noted x.due keys in
    let z : HalfState = record x { due = due } in
    let on : ℕ → Bool = on_both x y in
    let within : IsWithin x.due due = noted_within x.due keys in
    let covered = both_more on x.due y.due due y.due y.images x.images within (same_within y.due) h.covered in
    let source_away : is_sending x ≡ false → HasNoPlaces due = λ away. none_in_noted x.due keys (h.source_away away) in
    let stands : is_sending x ≡ true → Stands z s = λ a. let o = h.stands a in
    let freed : IsFreed due s.order x.known = freed_less x.due due s.order x.known (noted_some x.due keys) o.freed in
    assumption (freed, o) in
    let receives : is_receiving y ≡ true → Receives z y s = λ r. let o = h.receives r in
    let pending = pending_more on x.due due s.order y.applied within o.pending in
    let covered = outside_more on x.due due y.images x.images within o.covered in
    assumption (pending, covered, o) in
    let sends : is_sending x ≡ true → x.number ≡ y.number → Sends z y s = λ a b. let o = h.sends a b in record {
      pending = pending_more x.on x.due due s.order y.applied within o.pending;
      ahead = record { each = λ t i here none clean. o.ahead.each t i here (waiting_noted s x.due keys t (i / 64) none) clean };
      behind = o.behind;
    } in
    let keeps : (t : ℕ) → y.kept t ≡ true → y.number ≡ s.number → Keeps z y s t = λ t k n. quiet_keeps x z y s t (λ a. (h.keeps t k n).there a) (h.keeps t k n) in
    assumption (covered, source_away, stands, receives, sends, keeps, h)

pub keeps_change_source : (p : PairState) (set : ℕ) (image : Image) → Sound p → is_sending p.source ≡ false → ChangesInside p.source set image → Sound (after p (ChangeSource set image))
keeps_change_source p set image h away can =
    let x : HalfState = p.source in
    let y : HalfState = p.target in
    let s : Session = p.session in
    let z : HalfState = with_change x set image in
    let c : IsInsideDue x.on x.due x.images z.images = changes_inside x set image can in
    let on : ℕ → Bool = on_both x y in
    let sub : (t : ℕ) → on t ≡ true → x.on t ≡ true = λ t both. left_on (x.on t) (y.on t) both in
    let sizes : (t : ℕ) → on t ≡ true → SameSize y.images z.images t = λ t both. size_then _ _ _ t (h.sizes t both) (size_sym _ _ t (c.sizes t (sub t both))) in
    let covered = both_changed_source x.on on x.due y.due y.images x.images z.images sub c h.covered in
    let stands : is_sending x ≡ true → Stands z s = λ a. absent (is_sending x) a away in
    let receives : is_receiving y ≡ true → Receives z y s = λ r. let o = h.receives r in
    let covered = outside_changed x.on on x.due y.images x.images z.images sub c o.covered in
    assumption (covered, o) in
    let sends : is_sending x ≡ true → x.number ≡ y.number → Sends z y s = λ a b. absent (is_sending x) a away in
    let keeps : (t : ℕ) → y.kept t ≡ true → y.number ≡ s.number → Keeps z y s t = λ t k n. quiet_keeps x z y s t (λ a. absent (is_sending x) a away) (h.keeps t k n) in
    assumption (sizes, covered, stands, receives, sends, keeps, h)

-- ---- places

marked_more : (order : List Entry) (e : Entry) (n : ℕ) → n ≤ length order → n ≤ length (order ++ e ∷ [])
marked_more order e n le = omega (arith, length_push order e)

-- what the target has behind it, and what it has before it, do not change with an entry more
before_more : (y : HalfState) (s : Session) (e : Entry) → s.mark ≤ length s.order → IsBefore y s → IsBefore y (with_entry s e)
before_more y s e le b = record { each = λ some reached t i here. ap (λ (es : List Entry). block_in (after_entries y.images es) t i) (between_more y.applied s.mark s.order (e ∷ []) reached le) ∙ b.each some reached t i here }

behind_more : (y : HalfState) (s : Session) (e : Entry) (t i : ℕ) → s.mark ≤ y.applied → y.applied ≤ length s.order → IsBlockBehind y s t i → IsBlockBehind y (with_entry s e) t i
behind_more y s e t i reached le b = b ∙ sym (ap (λ (es : List Entry). block_in (after_entries s.candidate es) t i) (between_more s.mark y.applied s.order (e ∷ []) reached le))

mark_more : (s : Session) (e : Entry) → is_mark e.kind ≡ false → (0 < s.mark → e.kind ≡ Write) → HasMark s → HasMark (with_entry s e)
mark_more s e other write m = record {
  low = marked_more s.order e s.mark m.low;
  behind = λ some j f le is. elim (slice_get_push s.order e j f is) [
    | inl old ↦ m.behind some j f le old
    | inr new ↦ ap (λ (g : Entry). g.kind) (sym new.1) ∙ write some
  ];
  alone = λ j f is. elim (slice_get_push s.order e j f is) [
    | inl old ↦ m.alone j f old
    | inr new ↦ ap (λ (g : Entry). is_mark g.kind) (sym new.1) ∙ other ∙ sym (behind j s.mark (length s.order) new.0 m.low)
  ];
}
  where
    behind : (j mark n : ℕ) → j ≡ n → mark ≤ n → nat_eq (j + 1) mark ≡ false
    behind j mark n is le = grind (arith, nat_tests)

keeps_more : (x z y : HalfState) (s : Session) (e : Entry) (t : ℕ) → (is_sending z ≡ true → z.on t ≡ true) → y.applied ≤ length s.order → Keeps x y s t → Keeps z y (with_entry s e) t
keeps_more x z y s e t there le o = record {
  size = o.size;
  behind = λ some reached i. behind_more y s e t i reached le (o.behind some reached i);
  there = there;
  contents = o.contents;
}

-- entries stay inside volumes of the same size, and so does one more
pub fitting_same : (sets : Sets) (a b : Images) (e : Entry) → (sets e.set ≡ true → SameSize b a e.set) → IsFitting sets a e → IsFitting sets b e
fitting_same sets a b e size (inl is) = inl is
fitting_same sets a b e size (inr o) = inr (record { kind = o.kind; set_there = o.set_there; some = o.some; inside = record { high = omega (arith, o.inside.high, (size o.set_there).len) } })

fitting_push : (s new : Session) (a b : Images) (e : Entry) → new.sets ≡ s.sets → new.order ≡ s.order ++ e ∷ [] → ((t : ℕ) → SameSize b a t) → IsFitting s.sets b e → AreFitting s a → AreFitting new b
fitting_push s new a b e sets order sizes one f = rw (sets, order) (record { each = λ j x is. at j x (slice_get_push s.order e j x is) })
  where
    at : (j : ℕ) (x : Entry) → (slice_get s.order j ≡ Some x) ⊎ ((j ≡ length s.order) × (e ≡ x)) → IsFitting s.sets b x
    at j x (inl old) = fitting_same s.sets a b x (λ _. sizes x.set) (f.each j x old)
    at j x (inr new) = subst (λ (n : Entry). IsFitting s.sets b n) new.1 one

-- the target's place is one of the order
reached_in : (p : PairState) → Sound p → is_sending p.source ≡ true → p.source.number ≡ p.target.number → p.target.applied ≤ length p.session.order
reached_in p h a b = h.applied (sym b ∙ (h.stands a).number)

-- of an order with one entry more the entry at an earlier place is as before
once_push : (images : Images) (order : List Entry) (e : Entry) (n : ℕ) → n ≤ length order → IsOnce images order n → IsOnce images (order ++ e ∷ []) n
once_push images order e n le o = record {
  each = λ j f is there set i. elim (slice_get_push order e j f there) [
    | inl old ↦ o.each j f is old set i
    | inr new ↦ absurd (omega (arith, new.0, is, le))
  ];
}

-- and the last one is that entry
once_last : (images : Images) (order : List Entry) (e : Entry) → ((set i : ℕ) → block_in (after_entry images e) set i ≡ block_in images set i) → IsOnce images (order ++ e ∷ []) (length (order ++ e ∷ []))
once_last images order e same = record {
  each = λ j f is there set i. elim (slice_get_push order e j f there) [
    | inl old ↦ absurd (omega (arith, is, length_push order e, slice_get_within order j f old))
    | inr new ↦ subst (λ (g : Entry). block_in (after_entry images g) set i ≡ block_in images set i) new.1 (same set i)
  ];
}

-- a set of the session is one of both halves, where the second receives
set_on_both : (p : PairState) (set : ℕ) → Sound p → is_sending p.source ≡ true → is_receiving p.target ≡ true → p.session.sets set ≡ true → on_both p.source p.target set ≡ true
set_on_both p set h a r there = both_on (p.source.on set) (p.target.on set) ((h.stands a).on set ∙ there) ((h.receives r).on set ∙ there)

pub keeps_place_write : (p : PairState) (set at : ℕ) (bytes : Image) → Sound p → CanPlace p set at bytes → Sound (after p (PlaceWrite set at bytes))
keeps_place_write p set at bytes h can =
    let x : HalfState = p.source in
    let y : HalfState = p.target in
    let s : Session = p.session in
    let e : Entry = written set at bytes in
    let new : Session = with_entry s e in
    let z : HalfState = with_place x e (next_place s) (is_copying s) in
    let on : ℕ → Bool = on_both x y in
    let within : IsWithin x.due z.due = placed_within x.due (is_copying s) e (next_place s) in
    let apart : (t g : ℕ) → has z.due t g ≡ false → touches e t g ≡ false = placed_touched x.due (is_copying s) e (next_place s) in
    let grown : (t : ℕ) → SameSize z.images x.images t = λ t. size_after x.images e t in
    let sizes : (t : ℕ) → on t ≡ true → SameSize y.images z.images t = λ t both. size_then _ _ _ t (h.sizes t both) (size_sym _ _ t (grown t)) in
    let mark = mark_more s e refl (λ _. refl) h.mark in
    let applied : y.number ≡ s.number → y.applied ≤ length (s.order ++ e ∷ []) = λ same. marked_more s.order e y.applied (h.applied same) in
    let covered = both_source on x.due z.due y.due y.images x.images e within apart h.covered in
    let source_away : is_sending x ≡ false → HasNoPlaces z.due = λ away. absent (is_sending x) can.sends away in
    let stands : is_sending x ≡ true → Stands z new = λ a. let o = h.stands a in
    let counted : z.last ≡ length new.order = sym (length_push s.order e) in
    let reached : x.known ≤ length new.order = marked_more s.order e x.known o.reached in
    let taken : x.taken ≤ length new.order = marked_more s.order e x.taken o.taken in
    let freed : IsFreed z.due new.order x.known = freed_placed x.due s.order x.known (is_copying s) e o.reached o.freed in
    let sizes : 0 < s.mark → (t : ℕ) → x.on t ≡ true → SameSize s.candidate z.images t = λ some t here. size_then _ _ _ t (o.sizes some t here) (size_sym _ _ t (grown t)) in
    let one : IsFitting s.sets z.images e = inr (record { kind = refl; set_there = can.set_there; some = can.some; inside = record { high = omega (arith, can.inside, (grown set).len) } }) in
    let fits : AreFitting new z.images = fitting_push s new x.images z.images e refl refl grown one o.fits in
    let once : IsOnce z.images new.order (length new.order) = once_last z.images s.order e (once_more x.images e) in
    assumption (counted, reached, taken, freed, sizes, fits, once, o) in
    let receives : is_receiving y ≡ true → Receives z y new = λ r. let o = h.receives r in
    let pending : IsPending on z.due new.order y.applied = pending_push on x.due z.due s.order e y.applied within apart o.pending in
    let covered : SameOutside on z.due y.images z.images = outside_source on x.due z.due y.images x.images e within apart o.covered in
    let before : IsBefore y new = before_more y s e h.mark.low o.before in
    let one : IsFitting s.sets y.images e = inr (record {
      kind = refl;
      set_there = can.set_there;
      some = can.some;
      inside = record { high = omega (arith, can.inside, (h.sizes set (set_on_both p set h can.sends r can.set_there)).len) };
    }) in
    let fits : AreFitting new y.images = fitting_push s new y.images y.images e refl refl (size_same y.images) one o.fits in
    let once : IsOnce y.images new.order y.applied = once_push y.images s.order e y.applied (h.applied o.number) o.once in
    assumption (pending, covered, before, fits, once, o) in
    let sends : is_sending x ≡ true → x.number ≡ y.number → Sends z y new = λ a b. let o = h.sends a b in record {
      pending = pending_push x.on x.due z.due s.order e y.applied within apart o.pending;
      ahead = record {
        each = λ t i here none clean. same_write y.images x.images y.applied s.order e t i (reached_in p h a b) (h.sizes t here)
            (o.ahead.each t i here (waiting_placed s x.due e (next_place s) t (i / 64) none) clean);
      };
      behind = λ some reached t i here clean. behind_more y s e t i reached (reached_in p h a b) (o.behind some reached t i here clean);
    } in
    let keeps : (t : ℕ) → y.kept t ≡ true → y.number ≡ s.number → Keeps z y new t = λ t k n. keeps_more x z y s e t (λ a. (h.keeps t k n).there a) (h.applied n) (h.keeps t k n) in
    let messages = faithful_push s new e y.number y.applied p.messages refl refl h.messages in
    let held = faithful_push s new e y.number y.applied y.held refl refl h.held in
    assumption (sizes, mark, applied, covered, source_away, stands, receives, sends, keeps, messages, held, h)

apart_pair : (t g set seg : ℕ) → (nat_eq t set && nat_eq g seg) ≡ false → (t ≢ set) ⊎ (g ≢ seg)
apart_pair t g set seg off = grind (arith, nat_tests)

pub same_pair : (t g set seg : ℕ) → (nat_eq t set && nat_eq g seg) ≡ true → (t ≡ set) × (g ≡ seg)
same_pair t g set seg on = (grind (arith, nat_tests), grind (arith, nat_tests))

copied_touched : (images : Images) (due : Due) (set seg place t g : ℕ) → has (copied_due due set seg place) t g ≡ false → touches (copy_of images set seg) t g ≡ false
copied_touched images due set seg place t g none = elim (cases_Bool (nat_eq t set && nat_eq g seg)) [
  | inl on ↦ absent _ (subst (λ (b : Bool). is_some (cond b (Some place) (due t g)) ≡ true) (sym on) refl) none
  | inr off ↦ copy_elsewhere images set seg t g (apart_pair t g set seg off)
]

copied_here : (images : Images) (set seg t g : ℕ) → 64 * seg < length (images set) → (nat_eq t set && nat_eq g seg) ≡ true → touches (copy_of images set seg) t g ≡ true
copied_here images set seg t g inside on = let same = same_pair t g set seg on in
    subst (λ (n : ℕ). touches (copy_of images set seg) n g ≡ true) (sym same.0) (subst (λ (n : ℕ). touches (copy_of images set seg) set n ≡ true) (sym same.1) (copy_touches images set seg inside))

-- once the copy is applied, its segment is the source's; and another one is so as before
ahead_copied : (x z y : HalfState) (s : Session) (set seg : ℕ) → z.on ≡ x.on → z.images ≡ x.images → z.due ≡ copied_due x.due set seg (next_place s) → ((t : ℕ) → on_both x y t ≡ true → SameSize y.images x.images t) → y.applied ≤ length s.order → IsAhead x y s → IsAhead z y (with_entry s (copy_of x.images set seg))
ahead_copied x z y s set seg same_on same_images same_due sizes le a = record {
  each = λ t i here none clean. rw same_images (one t i (rw same_on at here) (rw same_due at none) clean (cases_Bool (nat_eq t set && nat_eq (i / 64) seg)));
}
  where
    one : (t i : ℕ) → on_both x y t ≡ true → is_waiting s (copied_due x.due set seg (next_place s) t (i / 64)) ≡ false → IsClean y t (i / 64) → ((nat_eq t set && nat_eq (i / 64) seg) ≡ true) ⊎ ((nat_eq t set && nat_eq (i / 64) seg) ≡ false)
        → block_in (after_entries y.images (between y.applied (length (s.order ++ copy_of x.images set seg ∷ [])) (s.order ++ copy_of x.images set seg ∷ []))) t i ≡ block_in x.images t i
    one t i here none clean (inl on) = let same = same_pair t (i / 64) set seg on in
        subst (λ (n : ℕ). block_in (after_entries y.images (between y.applied (length (s.order ++ copy_of x.images n seg ∷ [])) (s.order ++ copy_of x.images n seg ∷ []))) t i ≡ block_in x.images t i) same.0
        (same_copy y.images x.images y.applied s.order t seg i le (sizes t here) same.1)
    one t i here none clean (inr off) =
        same_apart y.images x.images y.applied s.order (copy_of x.images set seg) t i le (copy_elsewhere x.images set seg t (i / 64) (apart_pair t (i / 64) set seg off))
        (a.each t i here (subst (λ (b : Bool). is_waiting s (cond b (Some (next_place s)) (x.due t (i / 64))) ≡ false) off none) clean)

-- a copy lies inside its volume
copy_fits : (sets : Sets) (a b : Images) (set seg : ℕ) → sets set ≡ true → 64 * seg < length (a set) → SameSize b a set → IsFitting sets b (copy_of a set seg)
copy_fits sets a b set seg there some size = inr (record {
  kind = refl;
  set_there = there;
  some = omega (arith, length-segment (a set) seg);
  inside = record { high = omega (arith, length-segment (a set) seg, size.len) };
})

pub keeps_place_copy : (p : PairState) (set seg : ℕ) → Sound p → CanCopy p set seg → Sound (after p (PlaceCopy set seg))
keeps_place_copy p set seg h can =
    let x : HalfState = p.source in
    let y : HalfState = p.target in
    let s : Session = p.session in
    let e : Entry = copy_of x.images set seg in
    let new : Session = with_entry s e in
    let z : HalfState = with_copy x set seg (next_place s) in
    let on : ℕ → Bool = on_both x y in
    let within : IsWithin x.due z.due = copied_within x.due set seg (next_place s) in
    let apart : (t g : ℕ) → has z.due t g ≡ false → touches e t g ≡ false = copied_touched x.images x.due set seg (next_place s) in
    let mark = mark_more s e refl (λ some. absurd (omega (arith, can.copying, some))) h.mark in
    let applied : y.number ≡ s.number → y.applied ≤ length (s.order ++ e ∷ []) = λ same. marked_more s.order e y.applied (h.applied same) in
    let covered = both_more on x.due y.due z.due y.due y.images x.images within (same_within y.due) h.covered in
    let source_away : is_sending x ≡ false → HasNoPlaces z.due = λ away. absent (is_sending x) can.sends away in
    let stands : is_sending x ≡ true → Stands z new = λ a. let o = h.stands a in
    let counted : z.last ≡ length new.order = sym (length_push s.order e) in
    let reached : x.known ≤ length new.order = marked_more s.order e x.known o.reached in
    let taken : x.taken ≤ length new.order = marked_more s.order e x.taken o.taken in
    let freed : IsFreed z.due new.order x.known = freed_copied x.due s.order x.known e set seg o.reached (λ t g here. copied_here x.images set seg t g can.inside here) (λ t g off. copy_elsewhere x.images set seg t g (apart_pair t g set seg off)) o.freed in
    let fits : AreFitting new x.images = fitting_push s new x.images x.images e refl refl (size_same x.images) (copy_fits s.sets x.images x.images set seg can.set_there can.inside (size_same x.images set)) o.fits in
    let once : IsOnce x.images new.order (length new.order) = once_last x.images s.order e (copy_once x.images set seg) in
    assumption (counted, reached, taken, freed, fits, once, o) in
    let receives : is_receiving y ≡ true → Receives z y new = λ r. let o = h.receives r in
    let pending : IsPending on z.due new.order y.applied = pending_push on x.due z.due s.order e y.applied within apart o.pending in
    let covered : SameOutside on z.due y.images x.images = outside_more on x.due z.due y.images x.images within o.covered in
    let before : IsBefore y new = before_more y s e h.mark.low o.before in
    let fits : AreFitting new y.images = fitting_push s new y.images y.images e refl refl (size_same y.images)
    (copy_fits s.sets x.images y.images set seg can.set_there can.inside (h.sizes set (set_on_both p set h can.sends r can.set_there))) o.fits in
    let once : IsOnce y.images new.order y.applied = once_push y.images s.order e y.applied (h.applied o.number) o.once in
    assumption (pending, covered, before, fits, once, o) in
    let sends : is_sending x ≡ true → x.number ≡ y.number → Sends z y new = λ a b. let o = h.sends a b in record {
      pending = pending_push x.on x.due z.due s.order e y.applied within apart o.pending;
      ahead = ahead_copied x z y s set seg refl refl refl h.sizes (reached_in p h a b) o.ahead;
      behind = λ some reached t i here clean. behind_more y s e t i reached (reached_in p h a b) (o.behind some reached t i here clean);
    } in
    let keeps : (t : ℕ) → y.kept t ≡ true → y.number ≡ s.number → Keeps z y new t = λ t k n. keeps_more x z y s e t (λ a. (h.keeps t k n).there a) (h.applied n) (h.keeps t k n) in
    let messages = faithful_push s new e y.number y.applied p.messages refl refl h.messages in
    let held = faithful_push s new e y.number y.applied y.held refl refl h.held in
    assumption (mark, applied, covered, source_away, stands, receives, sends, keeps, messages, held, h)

-- no segment waits any more, so once all is applied the target has the source's blocks
all_same : (x y : HalfState) (s : Session) → ((t g : ℕ) → x.on t ≡ true → is_zero (x.due t g) ≡ false) → y.applied ≤ length s.order → IsAhead x y s → (t i : ℕ) → on_both x y t ≡ true → IsClean y t (i / 64)
    → block_in (after_entries y.images (between y.applied (length (s.order ++ a_mark ∷ [])) (s.order ++ a_mark ∷ []))) t i ≡ block_in x.images t i
all_same x y s none le a t i here clean = same_apart y.images x.images y.applied s.order a_mark t i le (mark_apart t (i / 64)) (a.each t i here (not_waiting (is_copying s) (is_zero (x.due t (i / 64))) (none t (i / 64) (left_on (x.on t) (y.on t) here))) clean)
  where
    not_waiting : (b c : Bool) → c ≡ false → (b && c) ≡ false
    not_waiting b c off = grind arith

marked_session : (s : Session) (x : HalfState) → s.mark ≡ 0 → HasMark s → HasMark (marked s x)
marked_session s x none m = record {
  low = omega (arith, length_push s.order a_mark);
  behind = λ some j f le is. absurd (omega (arith, le, slice_get_within (s.order ++ a_mark ∷ []) j f is, length_push s.order a_mark));
  alone = λ j f is. elim (slice_get_push s.order a_mark j f is) [
    | inl old ↦ m.alone j f old ∙ both (j + 1) s.mark (length s.order + 1) none (omega arith) (omega (arith, slice_get_within s.order j f old))
    | inr new ↦ ap (λ (g : Entry). is_mark g.kind) (sym new.1) ∙ sym (at j (length s.order) new.0)
  ];
}
  where
    both : (j mark n : ℕ) → mark ≡ 0 → 0 < j → j < n → nat_eq j mark ≡ nat_eq j n
    both j mark n none some lt = grind (arith, nat_tests)

    at : (j n : ℕ) → j ≡ n → nat_eq (j + 1) (n + 1) ≡ true
    at j n is = grind (arith, nat_tests)

-- a mark lies inside any volume, and changes no block
mark_fits : (sets : Sets) (images : Images) → IsFitting sets images a_mark
mark_fits sets images = inl refl

pub mark_once : (images : Images) (t i : ℕ) → block_in (after_entry images a_mark) t i ≡ block_in images t i
mark_once images t i = untouched images a_mark t i (mark_apart t (i / 64))

pub keeps_place_mark : (p : PairState) → Sound p → CanMark p → Sound (after p PlaceMark)
keeps_place_mark p h can =
    let x : HalfState = p.source in
    let y : HalfState = p.target in
    let s : Session = p.session in
    let new : Session = marked s x in
    let z : HalfState = with_mark x (next_place s) in
    let on : ℕ → Bool = on_both x y in
    let number : x.number ≡ s.number = (h.stands can.sends).number in
    let mark = marked_session s x can.copying h.mark in
    let applied : y.number ≡ s.number → y.applied ≤ length (s.order ++ a_mark ∷ []) = λ same. marked_more s.order a_mark y.applied (h.applied same) in
    let stands : is_sending x ≡ true → Stands z new = λ a. let o = h.stands a in
    let counted : z.last ≡ length new.order = sym (length_push s.order a_mark) in
    let reached : x.known ≤ length new.order = marked_more s.order a_mark x.known o.reached in
    let taken : x.taken ≤ length new.order = marked_more s.order a_mark x.taken o.taken in
    let freed : IsFreed x.due new.order x.known = freed_push x.due s.order x.known a_mark mark_apart o.freed in
    let synced : is_marked x.state ≡ true → (0 < new.mark) × (new.mark ≤ x.known) = λ m. absurd (omega (arith, (o.synced m).0, can.copying)) in
    let sizes : 0 < new.mark → (t : ℕ) → x.on t ≡ true → SameSize x.images x.images t = λ some t here. size_same x.images t in
    let fits : AreFitting new x.images = fitting_push s new x.images x.images a_mark refl refl (size_same x.images) (mark_fits s.sets x.images) o.fits in
    let once : IsOnce x.images new.order (length new.order) = once_last x.images s.order a_mark (mark_once x.images) in
    assumption (counted, reached, taken, freed, synced, sizes, fits, once, o) in
    let receives : is_receiving y ≡ true → Receives z y new = λ r. let o = h.receives r in
    let q : Sends x y s = h.sends can.sends (number ∙ sym o.number) in
    let here_both : (t : ℕ) → y.on t ≡ true → on t ≡ true = λ t here. set_on_both p t h can.sends r (sym (o.on t) ∙ here) in
    let reached : is_marked y.state ≡ knows_mark new.mark y.applied = o.reached ∙ not_yet s.mark y.applied (length s.order) can.copying (h.applied o.number) in
    let pending : IsPending on x.due new.order y.applied = pending_push on x.due x.due s.order a_mark y.applied (same_within x.due) (λ t g _. mark_apart t g) o.pending in
    let before : IsBefore y new = record {
      each = λ some reached t i here.
          ap (λ (n : ℕ). block_in (after_entries y.images (between y.applied n (s.order ++ a_mark ∷ []))) t i) (sym (length_push s.order a_mark))
          ∙ all_same x y s can.none (h.applied o.number) q.ahead t i (here_both t here) (inl r);
    } in
    let fits : AreFitting new y.images = fitting_push s new y.images y.images a_mark refl refl (size_same y.images) (mark_fits s.sets y.images) o.fits in
    let once : IsOnce y.images new.order y.applied = once_push y.images s.order a_mark y.applied (h.applied o.number) o.once in
    assumption (reached, pending, before, fits, once, o) in
    let sends : is_sending x ≡ true → x.number ≡ y.number → Sends z y new = λ a b. let o = h.sends a b in record {
      pending = pending_push x.on x.due x.due s.order a_mark y.applied (same_within x.due) (λ t g _. mark_apart t g) o.pending;
      ahead = record { each = λ t i here none clean. all_same x y s can.none (reached_in p h a b) o.ahead t i here clean };
      behind = λ some reached t i here clean. absurd (omega (arith, reached_in p h a b, reached));
    } in
    let keeps : (t : ℕ) → y.kept t ≡ true → y.number ≡ s.number → Keeps z y new t = λ t k n. let o = h.keeps t k n in record {
      size = λ some. size_sym _ _ t (h.sizes t (both_on (x.on t) (y.on t) (o.there can.sends) (h.kept_on t k)));
      behind = λ some reached i. absurd (omega (arith, h.applied n, reached));
      there = o.there;
      contents = o.contents ∙ not_yet s.mark y.applied (length s.order) can.copying (h.applied n);
    } in
    let messages = faithful_push s new a_mark y.number y.applied p.messages refl refl h.messages in
    let held = faithful_push s new a_mark y.number y.applied y.held refl refl h.held in
    assumption (mark, applied, stands, receives, sends, keeps, messages, held, h)
  where
    not_yet : (mark n len : ℕ) → mark ≡ 0 → n ≤ len → (nat_lt 0 mark && nat_le mark n) ≡ (nat_lt 0 (len + 1) && nat_le (len + 1) n)
    not_yet mark n len none le = grind (arith, nat_tests)

pub keeps_take : (p : PairState) (place : ℕ) → Sound p → CanTake p place → Sound (after p (Take place))
keeps_take p place h can =
    let x : HalfState = p.source in
    let y : HalfState = p.target in
    let s : Session = p.session in
    let z : HalfState = with_taken x place in
    let number : x.number ≡ s.number = (h.stands can.sends).number in
    let m : Message = taken_message p place in
    let one : IsFaithful s y.number y.applied m = record {
      old = omega (arith, number);
      some = can.some;
      entry = λ same. slice_get-get_or s.order (place - 1) a_mark (omega (arith, can.some, can.there));
      told = λ n is same. absurd (cc);
    } in
    let stands : is_sending x ≡ true → Stands z s = λ a. let o = h.stands a in let taken : place ≤ length s.order = can.there in assumption (taken, o) in
    let receives : is_receiving y ≡ true → Receives z y s = λ r. assumption (h.receives r) in
    let sends : is_sending x ≡ true → x.number ≡ y.number → Sends z y s = λ a b. let o = h.sends a b in record {
      pending = o.pending;
      ahead = record { each = o.ahead.each };
      behind = o.behind;
    } in
    let keeps : (t : ℕ) → y.kept t ≡ true → y.number ≡ s.number → Keeps z y s t = λ t k n. assumption (h.keeps t k n) in
    let messages = faithful_cons s y.number y.applied m p.messages one h.messages in
    let answered = answered_cons x.number y.number (is_acting x) m p.messages (λ n is same on. absurd (cc)) h.answered in
    assumption (stands, receives, sends, keeps, messages, answered, h)
