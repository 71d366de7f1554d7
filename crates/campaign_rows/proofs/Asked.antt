-- Details that are present only if the campaign asks for them.
use Rattle.std.proofs.Common.{◌≡◌, refl, ℕ, Bool, true, false}
use Rattle.std.specs.Bool.{then_some}
use Rattle.campaign_defs.specs.Rows.{if_asked}
use Rattle.campaign_defs.specs.TableText.{if_guarded}

pub asked_is : {T : Type 0} (asked : Bool) (it : T) → then_some asked it ≡ if_asked asked it
asked_is true it = refl
asked_is false it = refl

pub guarded_is : (guard : Bool) (traps : ℕ) → then_some guard traps ≡ if_guarded guard traps
guarded_is true traps = refl
guarded_is false traps = refl
