-- The texts that are the same in every run.
use Rattle.std.specs.Prelude.{ℕ, List, [], ◌∷◌, ◌++◌, Option, Some, None, codes, decimal}
use Rattle.input_defs.specs.declared.input.InputFault.{InputFault}
use Rattle.input_defs.specs.declared.input.Refusal.{Refusal}

-- a line of text
abbrev pub line : List ℕ → List ℕ
line text = text ++ 10 ∷ []

-- what the program answers to arguments of no subcommand
abbrev pub usage_text : List ℕ
usage_text = line (codes "usage: nooks run | run threads | asm | dis | gen N | audit | campaign | mirror")

-- an error of the whole input
abbrev pub at_root : InputFault → Refusal
at_root fault = record { fault = fault; path = [] }

-- what `--help` writes: a line for each subcommand, and one for each status
abbrev pub help_text : List ℕ
help_text =
    line (codes "nooks run             read a scenario, simulate it, write the report")
    ++ (line (codes "nooks run threads     the same, each thread of the scenario as a thread of its own")
    ++ (line (codes "nooks asm             read a driver as assembler text, write its image as JSON")
    ++ (line (codes "nooks dis             read an image as JSON, write assembler text")
    ++ (line (codes "nooks list            read a driver as assembler text, write its words with their addresses and source lines")
    ++ (line (codes "nooks gen N           simulate generated scenario N (1 to 256), write the line that sums it up")
    ++ (line (codes "nooks gen N scenario  write generated scenario N as JSON")
    ++ (line (codes "nooks audit           read a scenario and a printed report, check the report line by line")
    ++ (line (codes "nooks campaign        read a scenario and a list of faults, simulate it once for each, write the table")
    ++ (line (codes "nooks mirror          read a scenario of two disks, keep one disk on both, write the report")
    ++ (line (codes "nooks trace P B       read a scenario, write what burst B of part P did, turn by turn (P from 0)")
    ++ (line (codes "nooks guard           read a scenario, stop each driver before it breaks its contract, write traps and report")
    ++ (line (codes "nooks guard scenario  read a scenario, write it as JSON with the traps of its guard")
    ++ (line (codes "nooks explore         read a scenario, follow every order of its steps, write a row for each outcome")
    ++ (line (codes "nooks --help          write this")
    ++ (line (codes "nooks --version       write the program's version, and the kit that it is proved with")
    ++ (line (codes "status 0              done; no part was given up")
    ++ (line (codes "status 1              a part was given up; for mirror: neither disk was left")
    ++ (line (codes "status 2              the words are of no form; nothing was read")
    ++ (line (codes "status 3              the input was refused; the line written says why and where")
    ++ (line (codes "status 4              reading failed; nothing was written")
    ++ (line (codes "status 5              writing failed; a front of the output was written")
    ++ (line (codes "status 6              memory was wanting; a front of the output was written, or nothing")
    ++ (line (codes "status 7              a driver broke its class's contract")
    ++ (line (codes "status 8              a line of the report does not fit the scenario")
    ++ line (codes "status 9              not every order was followed: too many states")))))))))))))))))))))))))

-- what is written for an input of `audit` that does not begin with a length, or has fewer bytes
abbrev pub bad_header_text : List ℕ
bad_header_text = line (codes "fault 12 bad_header /")

-- what is written for a scenario that a mirror does not serve
abbrev pub not_mirror_text : List ℕ
not_mirror_text = line (codes "fault 13 not_mirror /")

-- what is written for a scenario whose run has no such part or burst
abbrev pub no_such_burst_text : List ℕ
no_such_burst_text = line (codes "fault 14 no_such_burst /")

-- the verdict on a report: every line fits, or this is the first that does not
abbrev pub verdict_text : Option ℕ → List ℕ
verdict_text None = line (codes "audit yes")
verdict_text (Some number) = line (codes "audit no line " ++ decimal number)

-- what `--version` writes: the program's name and version, and the kit that it is proved with
abbrev pub version_text : List ℕ
version_text = line (codes "nooks 0.11.0, proved with rattle-kit-13f logic dac8208d650f15bf")
