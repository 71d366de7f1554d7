use Rattle.std.specs.Prelude.{ℕ, ◌==◌, if◌then◌else◌, Option, Some, None}
use Rattle.machine_defs.specs.declared.service_names.ServiceName.{ServiceName}
use Rattle.machine_defs.specs.declared.service_names.ServiceName.TheVariants as name

-- The names of the kernel's services.

-- the service that a driver calls by a number
abbrev pub service_named : ℕ → Option ServiceName
service_named number = if number == 1 then Some name.Alloc
    else if number == 2 then Some name.Free
    else if number == 3 then Some name.Register
    else if number == 4 then Some name.Borrow
    else if number == 5 then Some name.GiveBack
    else if number == 6 then Some name.NetRx
    else if number == 7 then Some name.Log
    else if number == 8 then Some name.Yield else None
