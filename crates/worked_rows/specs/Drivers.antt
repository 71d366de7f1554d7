use Rattle.std.specs.Prelude.{ℕ, List, [], ◌∷◌, ◌++◌, codes}
use Rattle.nook_data.specs.declared.classes.Class.TheVariants as class
use Rattle.nook_data.specs.declared.scenario.Image.{Image}

-- The reference drivers as assembler texts, and another block driver for disks that fail.

-- the entries get and set, which are the same in each driver: the device's registers are at ports 8 to 11
abbrev pub register_code : List ℕ
register_code =
    codes "get: LI r5 1\nBEQ r1 r5 g1\nLI r5 2\nBEQ r1 r5 g2\nLI r5 3\nBEQ r1 r5 g3\n"
    ++ codes "IN r6 8\nJMP gend\n"
    ++ codes "g1: IN r6 9\nJMP gend\n"
    ++ codes "g2: IN r6 10\nJMP gend\n"
    ++ codes "g3: IN r6 11\n"
    ++ codes "gend: ST r6 r3 0\nRET r0\n"
    ++ codes "set: LI r5 1\nBEQ r1 r5 s1\nLI r5 2\nBEQ r1 r5 s2\nLI r5 3\nBEQ r1 r5 s3\n"
    ++ codes "OUT r2 8\nRET r0\n"
    ++ codes "s1: OUT r2 9\nRET r0\n"
    ++ codes "s2: OUT r2 10\nRET r0\n"
    ++ codes "s3: OUT r2 11\nRET r0\n"

-- a block driver: it reads and writes block by block, word by word
abbrev pub block_text : List ℕ
block_text =
    codes ".class block\n"
    ++ codes ".entry init init\n.entry read read\n.entry write write\n.entry get get\n.entry set set\n"
    ++ codes "init: LI r1 0\nKCALL 3\nLI r1 0\nRET r1\n"
    ++ codes "read: LI r5 16\nLI r6 1\n"
    ++ codes "rblk: OUT r1 1\nOUT r6 0\nLI r7 0\n"
    ++ codes "rword: IN r8 2\nST r8 r3 0\nADDI r3 r3 1\nADDI r7 r7 1\nBLT r7 r5 rword\n"
    ++ codes "ADDI r1 r1 1\nSUB r2 r6\nBNE r2 r0 rblk\nRET r0\n"
    ++ codes "write: LI r5 16\nLI r6 1\nLI r9 2\n"
    ++ codes "wblk: OUT r1 1\nLI r7 0\n"
    ++ codes "wword: LD r8 r3 0\nOUT r8 2\nADDI r3 r3 1\nADDI r7 r7 1\nBLT r7 r5 wword\n"
    ++ codes "OUT r9 0\nADDI r1 r1 1\nSUB r2 r6\nBNE r2 r0 wblk\nRET r0\n"
    ++ register_code

-- a block driver that reads the status after each command, and replies 256 + i if block i of the call failed
abbrev pub failing_block_text : List ℕ
failing_block_text =
    codes ".class block\n"
    ++ codes ".entry init init\n.entry read read\n.entry write write\n.entry get get\n.entry set set\n"
    ++ codes "init: LI r1 0\nKCALL 3\nLI r1 0\nRET r1\n"
    ++ codes "read: LI r5 16\nLI r6 1\nLI r11 256\n"
    ++ codes "rblk: OUT r1 1\nOUT r6 0\nIN r10 3\nBNE r10 r0 bad\nLI r7 0\n"
    ++ codes "rword: IN r8 2\nST r8 r3 0\nADDI r3 r3 1\nADDI r7 r7 1\nBLT r7 r5 rword\n"
    ++ codes "ADDI r1 r1 1\nADDI r11 r11 1\nSUB r2 r6\nBNE r2 r0 rblk\nRET r0\n"
    ++ codes "write: LI r5 16\nLI r6 1\nLI r9 2\nLI r11 256\n"
    ++ codes "wblk: OUT r1 1\nLI r7 0\n"
    ++ codes "wword: LD r8 r3 0\nOUT r8 2\nADDI r3 r3 1\nADDI r7 r7 1\nBLT r7 r5 wword\n"
    ++ codes "OUT r9 0\nIN r10 3\nBNE r10 r0 bad\nADDI r1 r1 1\nADDI r11 r11 1\n"
    ++ codes "SUB r2 r6\nBNE r2 r0 wblk\nRET r0\n"
    ++ codes "bad: RET r11\n"
    ++ register_code

-- the text words of that driver
abbrev pub failing_block_words : List ℕ
failing_block_words =
    0x01100000 ∷ 0x16000003 ∷ 0x01100000 ∷ 0x17100000 ∷ 0x01500010 ∷ 0x01600001 ∷ 0x01b00100 ∷ 0x15100001 ∷
    0x15600000 ∷ 0x14a00003 ∷ 0x10a00029 ∷ 0x01700000 ∷ 0x14800002 ∷ 0x0d830000 ∷ 0x0b330001 ∷ 0x0b770001 ∷
    0x1175000c ∷ 0x0b110001 ∷ 0x0bbb0001 ∷ 0x05260000 ∷ 0x10200007 ∷ 0x17000000 ∷ 0x01500010 ∷ 0x01600001 ∷
    0x01900002 ∷ 0x01b00100 ∷ 0x15100001 ∷ 0x01700000 ∷ 0x0c830000 ∷ 0x15800002 ∷ 0x0b330001 ∷ 0x0b770001 ∷
    0x1175001c ∷ 0x15900000 ∷ 0x14a00003 ∷ 0x10a00029 ∷ 0x0b110001 ∷ 0x0bbb0001 ∷ 0x05260000 ∷ 0x1020001a ∷
    0x17000000 ∷ 0x17b00000 ∷ 0x01500001 ∷ 0x0f150032 ∷ 0x01500002 ∷ 0x0f150034 ∷ 0x01500003 ∷ 0x0f150036 ∷
    0x14600008 ∷ 0x0e000037 ∷ 0x14600009 ∷ 0x0e000037 ∷ 0x1460000a ∷ 0x0e000037 ∷ 0x1460000b ∷ 0x0d630000 ∷
    0x17000000 ∷ 0x01500001 ∷ 0x0f150041 ∷ 0x01500002 ∷ 0x0f150043 ∷ 0x01500003 ∷ 0x0f150045 ∷ 0x15200008 ∷
    0x17000000 ∷ 0x15200009 ∷ 0x17000000 ∷ 0x1520000a ∷ 0x17000000 ∷ 0x1520000b ∷ 0x17000000 ∷ []

-- the image of that driver
abbrev pub failing_block_image : Image
failing_block_image =
    record { class = class.Block; entries = 0 ∷ 4 ∷ 22 ∷ 42 ∷ 57 ∷ []; text = failing_block_words; initial = [] }

-- a net driver: it hands up a received frame from the stack page
abbrev pub net_text : List ℕ
net_text =
    codes ".class net\n"
    ++ codes ".entry init init\n.entry send send\n.entry poll poll\n.entry get get\n.entry set set\n"
    ++ codes "init: LI r1 1\nKCALL 3\nLI r1 0\nRET r1\n"
    ++ codes "send: OUT r2 1\nLI r6 1\n"
    ++ codes "snext: LD r8 r3 0\nOUT r8 2\nADDI r3 r3 1\nSUB r2 r6\nBNE r2 r0 snext\n"
    ++ codes "OUT r6 0\nRET r0\n"
    ++ codes "poll: IN r2 3\nBEQ r2 r0 pend\nMOV r7 r2\nMOV r9 r14\nLI r5 64\nSUB r9 r5\n"
    ++ codes "MOV r10 r9\nLI r6 1\n"
    ++ codes "pnext: IN r8 4\nST r8 r9 0\nADDI r9 r9 1\nSUB r7 r6\nBNE r7 r0 pnext\n"
    ++ codes "LI r6 2\nOUT r6 0\nMOV r1 r10\nKCALL 6\n"
    ++ codes "pend: RET r0\n"
    ++ register_code

-- a sound driver: it plays each sample at once
abbrev pub sound_text : List ℕ
sound_text =
    codes ".class sound\n"
    ++ codes ".entry init init\n.entry open open\n.entry play play\n.entry close close\n.entry get get\n.entry set set\n"
    ++ codes "init: LI r1 2\nKCALL 3\nLI r1 0\nRET r1\n"
    ++ codes "open: RET r0\n"
    ++ codes "close: RET r0\n"
    ++ codes "play: LI r6 1\n"
    ++ codes "pl: LD r8 r3 0\nOUT r8 0\nADDI r3 r3 1\nSUB r2 r6\nBNE r2 r0 pl\n"
    ++ codes "RET r0\n"
    ++ register_code
