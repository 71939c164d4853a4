-- How short scripts are worked over the definitions: the host behind some events, what is refused there, and names.
use Rattle.std.proofs.Common.{ℕ, Bool, true, false, None, List, [], ◌∷◌, replicate}
use Rattle.std.specs.Prelude.{Option}
use Rattle.avs_seg.specs.Image.{Image}
use Rattle.avs_seg.specs.Staged.{run}
use Rattle.avs_model.specs.Filling.{fill}
use Rattle.avs_model.specs.Terms.{Terms, Chosen}
use Rattle.avs_model.specs.Hosts.{Name, HostState}
use Rattle.avs_model.specs.HostStages.{in_host}
use Rattle.avs_model.specs.HostEvents.{stages, with_disk_asked}
use Rattle.avs_model.specs.HostCauses.{refusal}
use Rattle.avs_model.specs.declared.event.Host.TheVariants.{P}
use Rattle.avs_model.specs.declared.answer.Refusal.{Refusal}
use Rattle.avs_model.specs.declared.product.Way.{Way}
use Rattle.avs_model.specs.declared.product.IiTarget.TheVariants.{Sets}
use Rattle.avs_model.specs.declared.product.IiCommand.TheVariants.{Enable, Update}
use Rattle.avs_model.specs.declared.product.Event.{Event}
use Rattle.avs_model.specs.declared.product.Event.TheVariants.{Write, Ii}
use Rattle.avs_model.specs.declared.product.Elsewhere.{Elsewhere}

abbrev pub terms : Terms
terms = record { steady = true; tells = true }

abbrev pub chosen : Chosen
chosen = record { behind = []; arms = true }

abbrev pub alone : Elsewhere
alone = record { name = P; blocks = 0 }

-- the host behind events that nothing refuses and no fault stops
abbrev pub done : HostState → List Event → HostState
done host [] = host
done host (event ∷ events) = done (run in_host (with_disk_asked host event) (stages terms chosen host event)) events

abbrev pub refused : HostState → Event → Option Refusal
refused host event = refusal terms alone chosen host event

-- one block of a byte
abbrev pub one_of : ℕ → Image
one_of byte = replicate 1 (fill (byte ∷ []))

-- volumes, their shadows, the bitmaps of these, an overflow volume, the bitmaps of imports, and a group
abbrev pub v : Name
v = 118 ∷ []

abbrev pub s : Name
s = 115 ∷ []

abbrev pub t : Name
t = 116 ∷ []

abbrev pub c : Name
c = 99 ∷ []

abbrev pub d : Name
d = 100 ∷ []

abbrev pub w : Name
w = 119 ∷ []

abbrev pub o : Name
o = 111 ∷ []

abbrev pub g : Name
g = 103 ∷ []

abbrev pub x : Name
x = 120 ∷ []

abbrev pub y : Name
y = 121 ∷ []

abbrev pub write : Name → ℕ → ℕ → Event
write volume at byte = Write P volume at 1 (byte ∷ [])

abbrev pub enable : Option Name → Bool → Name → Name → Name → Event
enable group dependent master shadow bitmap = Ii P (Enable group None dependent master shadow bitmap)

abbrev pub update : Way → Name → Event
update way set = Ii P (Update way false (Sets (set ∷ [])) 0)
