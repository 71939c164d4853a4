-- What reads and writes of ranges make of a world.
use Rattle.std.proofs.Common.{◌≡◌, ◌⊎◌, ℕ, ◌*◌, ◌/◌, Bool, true, false, Option, None, Some, Ok, Err, List, [], ◌∷◌, length, map, replicate, refl, sym, ◌∙◌, ap, subst, inl, inr, arith}
use Rattle.std.specs.Prelude.{IsTrue, ⊤}
use Rattle.std.proofs.lemmas.Bool.{false≢true}
use Rattle.avs_seg.specs.Image.{Image, blocks_of, range}
use Rattle.avs_dev.specs.Seen.{Seen}
use Rattle.avs_model.specs.Filling.{fill}
use Rattle.avs_model.specs.Limits.{longest_write, longest_read}
use Rattle.avs_model.specs.Shadows.{GroupStage, volume_write_stages, shadow_write_stages}
use Rattle.avs_model.specs.State.{State, Use, Alone, MasterIn, ShadowIn, BitmapIn, DiskPlace, OfVolume, OfState, use_of, reach_by, image_of, group_at, slot_of, is_armed, with_armed}
use Rattle.avs_model.specs.Stages.{Within, StoppedIn, write_stages, stages, after_stage, after_stages}
use Rattle.avs_model.specs.Right.{IsWriteDisk, IsWrittenWith, MeetsTear}
use Rattle.avs_model.specs.Refusals.{place_causes, range_causes, first_cause}
use Rattle.avs_model.specs.Good.{Step}
use Rattle.avs_model.specs.Next.{brought_down, TearUsed}
use Rattle.avs_model.specs.declared.event.Host.TheVariants.{P}
use Rattle.avs_model.specs.declared.event.Event.{Event}
use Rattle.avs_model.specs.declared.event.Event.TheVariants.{Write, Read}
use Rattle.avs_model.specs.declared.answer.Answer.TheVariants.{Done, Shown, Faulted}
use Rattle.avs_world.specs.declared.world.World.{World}
use Rattle.avs_world.specs.declared.stopped.Stopped.{Stopped}
use Rattle.avs_world.specs.declared.stopped.Stopped.TheVariants as stopped
use Rattle.avs_world.specs.declared.stopped.StoppedWrite.{StoppedWrite}
use Rattle.avs_world.specs.declared.ranges.Target.{Target}
use Rattle.avs_world.specs.Views.{StoreView, view_of, closed, SameApart}
use Rattle.avs_world.specs.Holds.{Holds, IsPhase}
use Rattle.avs_world.specs.Calls.{IsOf, ReadsAt, WriteTear, WritesAt}
use Rattle.avs_world.specs.World.{event_of, Keeps, IsThere, IsExplained, Stands}
use Rattle.avs_world.proofs.Holding.{holds_same_state, holds_apart, phase_apart}
use Rattle.avs_world.proofs.Standing.{explained_apart, up_none, up_kept, up_holds, up_phase, stands_up, stands_down}
use Rattle.avs_world.proofs.Ranging.{range_passed}
use Rattle.avs_world.proofs.SamePlaces.{same_place}
use Rattle.avs_world.proofs.Writing.{enabled_up}

-- the range of a write is there
abbrev IsRangeThere : Event → State → Type 0
IsRangeThere (Write host name at len pattern) state = first_cause (place_causes state P name at len longest_write) ≡ None
IsRangeThere event state = ⊤

-- the blocks that were read
shown_range : (out : List ℕ) (image : Image) (at len : ℕ) → length out ≡ 512 * len → blocks_of out ≡ range image at (length out / 512) → blocks_of out ≡ range image at len
shown_range out image at len long shows =
    let count : length out / 512 ≡ len = omega (arith, long) in
    shows ∙ ap (range image at) count

-- stages that change neither whether the host is up nor the event that was stopped
record Stays (old new : State) : Type 0 where
  pub up : new.p.up ≡ old.p.up
  pub stopped : new.p.stopped ≡ old.p.stopped

within_stays : (s : State) (group : ℕ) (l : List GroupStage) → Stays s (after_stages s (map (λ (stage : GroupStage). Within P group stage) l))
within_stays s group [] = record { up = refl; stopped = refl }
within_stays s group (stage ∷ l) =
    let rest = within_stays (after_stage s (Within P group stage)) group l in
    record { up = rest.up; stopped = rest.stopped }

write_stays : (s : State) (name : List ℕ) (at : ℕ) (blocks : Image) (u : Use) → Stays s (after_stages s (write_stages s.p P name at blocks u))
write_stays s name at blocks Alone = record { up = refl; stopped = refl }
write_stays s name at blocks (MasterIn group volume) = within_stays s group (volume_write_stages (group_at s.p group).state.sets volume at blocks)
write_stays s name at blocks (ShadowIn group set) = within_stays s group (shadow_write_stages (slot_of (group_at s.p group) set) at blocks)
write_stays s name at blocks (BitmapIn group set) = record { up = refl; stopped = refl }

module _ {D : Type 0} (seen : D → Seen) (steady : Bool) (old : World D) (s : State) (stands : Stands seen steady old s) (up : old.up ≡ true) where
  holds : Holds steady (view_of seen old) s
  holds = up_holds seen steady old s stands up

  phase : IsPhase true (view_of seen old).group
  phase = up_phase seen steady old s stands up

  none : s.p.stopped ≡ None
  none = up_none seen steady old s stands up

  -- a read that is done
  pub read_done : {T E : Type 0} (new : World D) (target : Target) (name : List ℕ) (at len : ℕ) (out : List ℕ) (x : T) (blocks : Image) → first_cause (range_causes s P name at len longest_read) ≡ None → IsOf (view_of seen old) target name
      → ReadsAt {T = T} {E = E} (view_of seen old) target at out (Ok x) (view_of seen new) → new.up ≡ old.up → new.stopped ≡ old.stopped → length out ≡ 512 * len → blocks ≡ blocks_of out
      → (next : State) × (Step steady s (Read P name at len) (Shown blocks) next) × (Stands seen steady new next)
  read_done new target name at len out x blocks passes sought reads same_up same_stopped long are =
      let shows = shown_range out (image_of s.p name) at len long (reads.shows steady s name holds sought) in (
        s,
        record { right = (passes, ap Shown (are ∙ shows)); next = refl },
        stands_up seen steady new s (same_up ∙ up) (sym stands.up ∙ up) none (same_stopped ∙ up_kept seen steady old s stands up) (reads.holds steady s holds) (reads.phase true phase),
      )

  -- a read that a fault stopped: nothing is told of it
  pub read_stopped : {T E : Type 0} (mid new : World D) (target : Target) (name : List ℕ) (at len : ℕ) (out : List ℕ) (e : E) → first_cause (range_causes s P name at len longest_read) ≡ None
      → ReadsAt {T = T} {E = E} (view_of seen old) target at out (Err e) (view_of seen mid) → view_of seen new ≡ record (view_of seen mid) { group = closed (view_of seen mid).group } → SameApart (view_of seen mid).group
      → new.up ≡ false → new.stopped ≡ None → (next : State) × (Step steady s (Read P name at len) (Faulted P) next) × (Stands seen steady new next)
  read_stopped mid new target name at len out e passes reads apart same down clear =
      let other : steady ≡ false = reads.sure steady s holds in
      let next = brought_down s P (Read P name at len) in
      let held = reads.holds steady s holds in
      let left_phase = reads.phase true phase in (
        next,
        record {
          right = record { passes = passes; uses = refl; may_fail = inl other };
          next = record { left = s; tear = inr (other, refl); down = refl };
        },
        record {
          up = down;
          none_stopped = λ is. absurd (false≢true is);
          keeps = subst (λ (o : Option Stopped). Keeps o next.p) (sym clear) (refl, refl);
          left = next;
          stopped = refl;
          there = subst (λ (o : Option Stopped). IsThere o next) (sym clear) tt;
          holds = subst (λ (v : StoreView). Holds steady v next) (sym apart)
              (holds_apart steady (view_of seen mid) next same (holds_same_state steady (view_of seen mid) s next refl refl refl refl held));
          phase = subst (λ (b : Bool). IsPhase b (view_of seen new).group) (sym down)
              (subst (λ (v : StoreView). IsPhase false v.group) (sym apart) (phase_apart (view_of seen mid).group));
          explained = subst (λ (v : StoreView). IsExplained v.group next.p) (sym apart)
              (explained_apart (view_of seen mid).group next.p (enabled_up steady (view_of seen mid) s held left_phase));
        },
      )

  -- Writes. The stages of one change neither whether the host is up nor the event that was stopped.
  module _ (name : List ℕ) (at len : ℕ) (pattern : List ℕ) where
    abbrev event : Event
    event = Write P name at len pattern

    abbrev bs : Image
    bs = replicate len (fill pattern)

    pub write_done : {T E : Type 0} (new : World D) (target : Target) (bytes : List ℕ) (x : T) → first_cause (range_causes s P name at len longest_write) ≡ None → IsOf (view_of seen old) target name
        → WritesAt {T = T} {E = E} (view_of seen old) target at bytes (Ok x) (view_of seen new) → blocks_of bytes ≡ replicate len (fill pattern) → new.up ≡ old.up → new.stopped ≡ old.stopped
        → (next : State) × (Step steady s (Write P name at len pattern) Done next) × (Stands seen steady new next)
    write_done new target bytes x passes sought writes filled same_up same_stopped =
        let next = after_stages s (stages s event) in
        let stay = write_stays s name at bs (use_of s.p name) in
        let left : Holds steady (view_of seen new) next = subst (λ (l : Image). Holds steady (view_of seen new) (after_stages s (write_stages s.p P name at l (use_of s.p name)))) filled (writes.done steady s name holds sought) in (
          next,
          record { right = (passes, refl); next = refl },
          stands_up seen steady new next (same_up ∙ up) (stay.up ∙ sym stands.up ∙ up) (stay.stopped ∙ none) (same_stopped ∙ up_kept seen steady old s stands up) left (writes.phase true phase),
        )

    -- the tear that was met, before the host went down
    record Met (m : State) : Type 0 where
      pub mid : State
      pub used : TearUsed steady s event P mid
      pub fails : (steady ≡ false) ⊎ MeetsTear s event P
      pub down : m ≡ brought_down mid P event

    abbrev fallen : State
    fallen = brought_down s P event

    written_same : (u : Use) (volume : List ℕ) → IsWrittenWith fallen.p u name volume → IsWrittenWith s.p u name volume
    written_same Alone volume w = w
    written_same (MasterIn group master) volume w = w
    written_same (ShadowIn group set) volume w = w
    written_same (BitmapIn group set) volume w = w

    met_on : (m : State) (disk : DiskPlace) → IsWriteDisk fallen.p name disk → IsTrue (is_armed fallen.p disk) → m ≡ with_armed fallen P disk false → Met m
    met_on m (OfVolume volume) writes armed is =
        let meets : MeetsTear s event P = record { disk = OfVolume volume; writes = (refl, written_same (use_of s.p name) volume writes); armed = armed } in
        record { mid = with_armed s P (OfVolume volume) false; used = inl (meets, refl); fails = inr meets; down = is }
    met_on m (OfState group) writes armed is = absurd writes

    met : (m : State) → WriteTear steady fallen name m → Met m
    met m tear = elim tear [
      | inl torn ↦ met_on m torn.0 torn.1 torn.2 torn.3
      | inr other ↦ record { mid = s; used = inr (other.0, refl); fails = inl other.0; down = other.1 }
    ]

    reach_down : (u : Use) → reach_by fallen.p name u ≡ reach_by s.p name u
    reach_down Alone = refl
    reach_down (MasterIn group volume) = refl
    reach_down (ShadowIn group set) = refl
    reach_down (BitmapIn group set) = refl

    pub write_stopped : {T E : Type 0} (mid new : World D) (target : Target) (bytes : List ℕ) (e : E) (write : StoppedWrite) → first_cause (range_causes s P name at len longest_write) ≡ None → IsOf (view_of seen old) target name
        → WritesAt {T = T} {E = E} (view_of seen old) target at bytes (Err e) (view_of seen mid) → blocks_of bytes ≡ replicate len (fill pattern)
        → view_of seen new ≡ record (view_of seen mid) { group = closed (view_of seen mid).group } → SameApart (view_of seen mid).group → new.up ≡ false → new.stopped ≡ Some (stopped.Write write)
        → event_of write ≡ Write P name at len pattern → (next : State) × (Step steady s (Write P name at len pattern) (Faulted P) next) × (Stands seen steady new next)
    write_stopped mid new target bytes e write passes sought writes filled apart same down kept event_is =
        let stops = writes.stopped steady fallen name (holds_same_state steady (view_of seen old) s fallen refl refl refl refl holds) sought in
        let tear = met stops.mid stops.tear in
        let next = brought_down tear.mid P event in
        let left = stops.left in
        let done : StoppedIn next (write_stages next.p P name at bs (use_of next.p name)) left =
        subst (λ (l : Image). StoppedIn next (write_stages next.p P name at l (use_of next.p name)) left) filled
        (subst (λ (t : State). StoppedIn t (write_stages t.p P name at (blocks_of bytes) (use_of t.p name)) left) tear.down stops.stopped) in
        let there : first_cause (place_causes left P name at len longest_write) ≡ None =
        stops.place at len longest_write ∙ same_place s fallen name refl refl (reach_down (use_of s.p name)) at len longest_write ∙ range_passed s name at len longest_write passes in (
          next,
          record {
            right = record { passes = passes; uses = refl; may_fail = tear.fails };
            next = record { left = tear.mid; tear = tear.used; down = refl };
          },
          stands_down seen steady new next (view_of seen mid) left down refl apart same (subst (λ (o : Option Stopped). Keeps o next.p) (sym kept) (ap (λ (x : Event). Some x) (sym event_is))) done
              (subst (λ (o : Option Stopped). IsThere o left) (sym kept) (subst (λ (x : Event). IsRangeThere x left) (sym event_is) there)) stops.holds
              (explained_apart (view_of seen mid).group next.p (writes.enabled steady s holds phase)),
        )
