use Rattle.std.specs.Prelude.{ℕ, List, [], ◌∷◌, ◌++◌, take, replicate, codes, Result, Ok, Err}
use Rattle.serde_json.specs.Written.{compact_text}
use Rattle.asm_defs.specs.Disassembler.{disassembled}
use Rattle.input_defs.specs.Faults.{fault_line}
use Rattle.input_defs.specs.ImageReading.{image_from, image_from_asm}
use Rattle.asm_defs.specs.ImageText.{image_data, image_text}
use Rattle.run_defs.specs.References.{block_words}
use Rattle.input_defs.specs.ScenarioReading.{scenario_from}
use Rattle.nook_data.specs.declared.scenario.BadBlock.{BadBlock}
use Rattle.nook_data.specs.declared.classes.Class.TheVariants as class
use Rattle.nook_data.specs.declared.scenario.Image.{Image}
use Rattle.nook_data.specs.declared.calls.Op.TheVariants as op
use Rattle.nook_data.specs.declared.scenario.PartSpec.{PartSpec}
use Rattle.nook_data.specs.declared.scenario.Scenario.{Scenario}
use Rattle.nook_data.specs.declared.scenario.ScheduleSpec.TheVariants as schedule
use Rattle.input_defs.specs.declared.input.Refusal.{Refusal}
use Rattle.worked_rows.specs.Drivers.{failing_block_image}

-- what is written: the text of what was read, or the line of the input error
abbrev pub reported : {T : Type 0} → (T → List ℕ) → Result T Refusal → List ℕ
reported text (Ok read) = text read
reported text (Err refusal) = fault_line refusal

-- what is reported for an input: nothing if it is right, else its first input error
abbrev pub reported_fault : {T : Type 0} → Result T Refusal → List ℕ
reported_fault read = reported (λ right. []) read

abbrev pub scenario_fault : List ℕ → List ℕ
scenario_fault bytes = reported_fault (scenario_from bytes)

abbrev pub image_fault : List ℕ → List ℕ
image_fault bytes = reported_fault (image_from bytes)

-- what `asm` writes for the bytes that it reads
abbrev pub asm_output : List ℕ → List ℕ
asm_output bytes = reported image_text (image_from_asm bytes)

-- what `dis` writes for the bytes that it reads
abbrev pub dis_output : List ℕ → List ℕ
dis_output bytes = reported disassembled (image_from bytes)

-- ---- a small driver, which answers every read with an invented word

abbrev pub lying_text : List ℕ
lying_text =
    codes ".class block\n.entry init a\n.entry read b\n.entry write b\n.entry get b\n.entry set b\n"
    ++ codes "a: LI r1 0\nKCALL 3\nLI r1 0\nRET r1\n"
    ++ codes "b: LI r5 1\nST r5 r3 0\nRET r0\n"

abbrev pub lying_json : List ℕ
lying_json =
    codes "{\"class\":\"block\",\"data\":[],\"entries\":{\"get\":4,\"init\":0,\"read\":4,\"set\":4,\"write\":4},"
    ++ codes "\"text\":[\"01100000\",\"16000003\",\"01100000\",\"17100000\",\"01500001\",\"0d530000\",\"17000000\"]}\n"

-- the same driver as the disassembler writes it
abbrev pub lying_numbers : List ℕ
lying_numbers =
    codes ".class block\n.entry init 0\n.entry read 4\n.entry write 4\n.entry get 4\n.entry set 4\n"
    ++ codes "LI r1 0\nKCALL 3\nLI r1 0\nRET r1\nLI r5 1\nST r5 r3 0\nRET r0\n"

-- ---- one thread writes a block and reads it back

-- the block driver's init, read and write; get and set end in the instruction `FAULT`
abbrev pub short_image : Image
short_image = record {
  class = class.Block;
  entries = 0 ∷ 4 ∷ 18 ∷ 33 ∷ 33 ∷ [];
  text = take 33 block_words ++ 0x18000000 ∷ [];
  initial = [];
}

abbrev pub write_and_read_json : List ℕ
write_and_read_json =
    codes "{\"version\":1,\"parts\":[{\"name\":\"d0\",\"class\":\"block\",\"blocks\":4,\"driver\":{\"image\":{\"class\":\"block\",\"data\":[],"
    ++ codes "\"entries\":{\"get\":33,\"init\":0,\"read\":4,\"set\":33,\"write\":18},\"text\":["
    ++ codes "\"01100000\", \"16000003\", \"01100000\", \"17100000\", \"01500010\", \"01600001\", \"15100001\", \"15600000\", "
    ++ codes "\"01700000\", \"14800002\", \"0d830000\", \"0b330001\", \"0b770001\", \"11750009\", \"0b110001\", \"05260000\", "
    ++ codes "\"10200006\", \"17000000\", \"01500010\", \"01600001\", \"01900002\", \"15100001\", \"01700000\", \"0c830000\", "
    ++ codes "\"15800002\", \"0b330001\", \"0b770001\", \"11750017\", \"15900000\", \"0b110001\", \"05260000\", \"10200015\", "
    ++ codes "\"17000000\", \"18000000\"]}}}],\"threads\":[{\"name\":\"t0\",\"ops\":["
    ++ codes "{\"part\":0,\"op\":\"write\",\"first\":1,\"data\":[1,2,3,4,5,6,7,8,9,10,11,12,13,14,15,16]},"
    ++ codes "{\"part\":0,\"op\":\"read\",\"first\":1,\"count\":1}]}]}"

abbrev pub one_to_sixteen : List ℕ
one_to_sixteen = 1 ∷ 2 ∷ 3 ∷ 4 ∷ 5 ∷ 6 ∷ 7 ∷ 8 ∷ 9 ∷ 10 ∷ 11 ∷ 12 ∷ 13 ∷ 14 ∷ 15 ∷ 16 ∷ []

-- a disk of four blocks, with these bad ones
abbrev pub disk_part : Image → List BadBlock → PartSpec
disk_part image bad = record {
  name = codes "d0";
  class = class.Block;
  blocks = 4;
  bad = bad;
  limit = 0;
  image = image;
  faults = [];
  arrivals = [];
}

abbrev pub write_and_read : Scenario
write_and_read = record {
  schedule = schedule.RoundRobin;
  parts = disk_part short_image [] ∷ [];
  threads = record { name = codes "t0"; ops = (0, op.Write 1 one_to_sixteen) ∷ (0, op.Read 1 1) ∷ [] } ∷ [];
}

-- ---- a disk with a bad block

-- the JSON text of an image as a driver
abbrev pub driver_json : Image → List ℕ
driver_json image = codes "{\"image\":" ++ compact_text (image_data image) ++ codes "}"

-- a scenario of this version, in which block 2 fails from its first command on
abbrev pub bad_block_json : List ℕ → List ℕ
bad_block_json version =
    codes "{\"version\":" ++ version ++ codes ",\"parts\":[{\"name\":\"d0\",\"class\":\"block\",\"driver\":"
    ++ driver_json failing_block_image
    ++ codes ",\"bad\":[{\"block\":2,\"after\":0}],\"blocks\":4}],\"threads\":[{\"name\":\"t0\",\"ops\":["
    ++ codes "{\"part\":0,\"op\":\"write\",\"first\":1,\"data\":[1,1,1,1,1,1,1,1,1,1,1,1,1,1,1,1,2,2,2,2,2,2,2,2,2,2,2,2,2,2,2,2]},"
    ++ codes "{\"part\":0,\"op\":\"read\",\"first\":1,\"count\":1},{\"part\":0,\"op\":\"read\",\"first\":2,\"count\":1}]}]}"

abbrev pub bad_block : Scenario
bad_block = record {
  schedule = schedule.RoundRobin;
  parts = disk_part failing_block_image (record { block = 2; after = 0 } ∷ []) ∷ [];
  threads = record {
    name = codes "t0";
    ops = (0, op.Write 1 (replicate 16 1 ++ replicate 16 2)) ∷ (0, op.Read 1 1)
        ∷ (0, op.Read 2 1) ∷ [];
  } ∷ [];
}
