-- What tests of roles tell.
use Rattle.std.proofs.Common.{◌≡◌, Bool, true, false, refl}
use denote.Enum.Bare.{sameb, same_true, same_false}
use Rattle.avs_world.specs.contracts.group.Part.{the_type}
use Rattle.avs_model.specs.Refusals.{is_bitmap}
use Rattle.avs_world.specs.declared.group.Part.{Part}
use Rattle.avs_world.specs.declared.group.Part.TheVariants.{Master, Shadow, Bitmap, Plain}
use Rattle.avs_world.proofs.Holding.{use_as}
use Rattle.avs_world.proofs.Ready.{gone_as}

pub same_role : (role other : Part) → sameb the_type role other ≡ true → role ≡ other
same_role role other is = same_true the_type tt role other is

pub no_bitmap : (role : Part) → sameb the_type role Bitmap ≡ false → is_bitmap (use_as role) ≡ false
no_bitmap Master differs = refl
no_bitmap Shadow differs = refl
no_bitmap Bitmap differs = absurd (same_false the_type Bitmap Bitmap differs refl)
no_bitmap Plain differs = refl

pub kept_contents : (role : Part) (gone : Bool) → sameb the_type role Plain ≡ false → gone_as role gone ≡ false
kept_contents Master gone differs = refl
kept_contents Shadow gone differs = refl
kept_contents Bitmap gone differs = refl
kept_contents Plain gone differs = absurd (same_false the_type Plain Plain differs refl)
