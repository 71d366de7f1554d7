-- The texts of parts and scenarios, piece by piece.
use Rattle.std.proofs.Common.{◌≡◌, ℕ, List, ◌++◌, true, refl, ◌∙◌, append_assoc, codes, decimal}
use Rattle.json.specs.Print.{escape_byte, quoted}
use Rattle.serde_json.specs.Written.{compact_text, members_text}
use Rattle.nook_data.specs.ClassNames.{class_text}
use Rattle.nook_data.specs.declared.scenario.PartSpec.{PartSpec}
use Rattle.nook_data.specs.declared.scenario.Fault.{Fault}
use Rattle.nook_data.specs.declared.scenario.Scenario.{Scenario}
use Rattle.nook_data.specs.declared.scenario.ThreadSpec.{ThreadSpec}
use Rattle.scenario_write.proofs.Words.{class_quoted}
use Rattle.scenario_write.specs.ScenarioText.{arrival_members, disk_members, driver_data, fault_data, list_data, part_data, part_members, scenario_data, schedule_data, thread_data, version_of}

nine : (old a b c d e f g h i : List ℕ) → old ++ (a ++ b) ++ c ++ d ++ e ++ f ++ g ++ h ++ i ≡ old ++ (a ++ (b ++ (c ++ (d ++ (e ++ (f ++ (g ++ (h ++ i))))))))
nine old a b c d e f g h i = simp append_assoc refl

seven : (old a b c d e f g : List ℕ) → old ++ (a ++ b) ++ c ++ d ++ e ++ f ++ g ≡ old ++ (a ++ (b ++ (c ++ (d ++ (e ++ (f ++ g))))))
seven old a b c d e f g = simp append_assoc refl

pub part_text : (part : PartSpec) (old named after_name classed disk whole : List ℕ)
    → named ≡ old ++ codes "{\"name\":"
    → after_name ≡ named ++ quoted part.name
    → classed ≡ after_name ++ (codes ",\"class\":\"" ++ (class_text part.class ++ codes "\""))
    → disk ++ members_text true (part_members part) ≡ classed ++ members_text true (disk_members part.class part (part_members part))
    → whole ≡ disk ++ members_text true (part_members part)
    → whole ≡ old ++ compact_text (part_data part)
unfolding part_data escape_byte
part_text part old named after_name classed disk whole a b c d e = e ∙ d ∙ rw (c, b, a, ← class_quoted part.class) (simp append_assoc refl)

pub scenario_text : (scenario : Scenario) (version : ℕ) (versioned parts : List PartSpec) (threads : List ThreadSpec) (old s1 s2 s3 s4 s5 s6 s7 whole : List ℕ)
    → version ≡ version_of versioned → versioned ≡ scenario.parts → parts ≡ scenario.parts → threads ≡ scenario.threads
    → s1 ≡ old ++ (codes "{\"version\":" ++ decimal version)
    → s2 ≡ s1 ++ codes ",\"schedule\":"
    → s3 ≡ s2 ++ compact_text (schedule_data scenario.schedule)
    → s4 ≡ s3 ++ codes ",\"parts\":"
    → s5 ≡ s4 ++ compact_text (list_data part_data parts)
    → s6 ≡ s5 ++ codes ",\"threads\":"
    → s7 ≡ s6 ++ compact_text (list_data thread_data threads)
    → whole ≡ s7 ++ codes "}"
    → whole ≡ old ++ compact_text (scenario_data scenario)
unfolding scenario_data escape_byte
scenario_text scenario version versioned parts threads old s1 s2 s3 s4 s5 s6 s7 whole v w p t a b c d e f g h = rw (h, g, f, e, d, c, b, a, v, w, p, t)
    (nine old (codes "{\"version\":") (decimal (version_of scenario.parts)) (codes ",\"schedule\":") (compact_text (schedule_data scenario.schedule)) (codes ",\"parts\":")
    (compact_text (list_data part_data scenario.parts)) (codes ",\"threads\":") (compact_text (list_data thread_data scenario.threads)) (codes "}"))

pub members_of_part : (part : PartSpec) (limit : ℕ) (faults : List Fault) (old s1 s2 s3 s4 s5 whole : List ℕ)
    → limit ≡ part.limit → faults ≡ part.faults
    → s1 ≡ old ++ (codes ",\"limit\":" ++ decimal limit)
    → s2 ≡ s1 ++ codes ",\"driver\":"
    → s3 ≡ s2 ++ compact_text (driver_data part.image)
    → s4 ≡ s3 ++ codes ",\"faults\":"
    → s5 ≡ s4 ++ compact_text (list_data fault_data faults)
    → whole ≡ s5 ++ members_text true (arrival_members part.class part)
    → whole ≡ old ++ members_text true (part_members part)
unfolding escape_byte
members_of_part part limit faults old s1 s2 s3 s4 s5 whole l m a b c d e f = rw (f, e, d, c, b, a, l, m)
    (seven old (codes ",\"limit\":") (decimal part.limit) (codes ",\"driver\":") (compact_text (driver_data part.image)) (codes ",\"faults\":")
    (compact_text (list_data fault_data part.faults)) (members_text true (arrival_members part.class part)))
