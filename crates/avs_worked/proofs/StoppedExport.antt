-- A fault in the midst of giving a shadow volume away, worked over the definitions: the stamp may be drawn and the volume still be here.
use Rattle.std.proofs.Common.{◌≡◌, true, None, Some, [], ◌∷◌, refl, inl}
use Rattle.avs_seg.specs.Image.{blank}
use Rattle.avs_seg.specs.Staged.{run}
use Rattle.avs_model.specs.Hosts.{HostState, Draw}
use Rattle.avs_model.specs.HostPlaces.{image_of}
use Rattle.avs_model.specs.HostStages.{in_host}
use Rattle.avs_model.specs.HostSteps.{brought_up, StoppedAt, stopped_stages, stopped_by, second_line}
use Rattle.avs_model.specs.declared.recovered.Second.TheVariants as second
use Rattle.avs_model.specs.declared.event.Host.TheVariants.{P}
use Rattle.avs_model.specs.declared.answer.Refusal.TheVariants.{WrongState}
use Rattle.avs_model.specs.declared.answer.Word.TheVariants.{Away}
use Rattle.avs_model.specs.declared.product.IiCommand.TheVariants.{Export}
use Rattle.avs_model.specs.declared.product.Event.{Event}
use Rattle.avs_model.specs.declared.product.Event.TheVariants.{Read, Ii}
use Rattle.avs_worked.proofs.WorkedRuns.{terms, chosen, refused, s}
use Rattle.avs_worked.proofs.GivenAway.{copied}

abbrev pub give : Event
give = Ii P (Export s)

abbrev pub stopped : HostState
stopped = record copied.p { run = stopped_by terms chosen copied.p give true }

-- the stamp was drawn, and the commit does not stand: the next stamp is another one
abbrev pub drawn : HostState
drawn = run in_host stopped (Draw ∷ [])

pub one_done : StoppedAt in_host stopped (stopped_stages stopped) 1 drawn
one_done = inl refl

pub told_kept : second_line stopped 1 (brought_up drawn) ≡ second.Kept
told_kept = refl

pub next_stamp : (brought_up drawn).stamp ≡ 3
next_stamp = refl

pub still_read : refused (brought_up drawn) (Read P s 0 1) ≡ None
still_read = refl

pub still_here : image_of (brought_up drawn) s ≡ blank 128
still_here = refl

pub may_give : refused (brought_up drawn) give ≡ None
may_give = refl

-- or all of it stands
abbrev pub given : HostState
given = run in_host stopped (stopped_stages stopped)

pub both_done : StoppedAt in_host stopped (stopped_stages stopped) 2 given
both_done = refl

pub told_done : second_line stopped 2 (brought_up given) ≡ second.Done
told_done = refl

pub not_read : refused (brought_up given) (Read P s 0 1) ≡ Some (WrongState Away)
not_read = refl
