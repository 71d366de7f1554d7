use Rattle.std.specs.Prelude.{◌≡◌, ◌<◌, length}
use Rattle.nook_data.specs.declared.devices.DeviceKind.{DeviceKind}
use Rattle.nook_data.specs.declared.devices.DeviceKind.TheVariants as kind
use Rattle.nook_data.specs.declared.devices.Disk.{Disk}
use Rattle.nook_data.specs.declared.limits.TheConstants.{BLOCK_WORDS}

-- what is true of every disk: a count for each block, and the position within the buffer
abbrev pub IsKeptDisk : Disk → Type 0
IsKeptDisk k = (length k.counts ≡ length k.medium) × (k.position < BLOCK_WORDS)

-- what is true of every device
abbrev pub IsKept : DeviceKind → Type 0
IsKept (kind.Disk k) = IsKeptDisk k
IsKept (kind.Link k) = Unit {0}
IsKept kind.Speaker = Unit {0}
