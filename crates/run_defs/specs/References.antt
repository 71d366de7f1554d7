use Rattle.std.specs.Prelude.{ℕ, List, [], ◌∷◌}
use Rattle.nook_data.specs.Types.{Image}
use Rattle.nook_data.specs.declared.classes.Class.TheVariants as class

-- The images of the reference drivers.

-- the text words of a block driver: it reads and writes block by block, word by word
abbrev pub block_words : List ℕ
block_words =
    0x01100000 ∷ 0x16000003 ∷ 0x01100000 ∷ 0x17100000 ∷ 0x01500010 ∷ 0x01600001 ∷ 0x15100001 ∷ 0x15600000 ∷ 0x01700000 ∷
    0x14800002 ∷ 0x0d830000 ∷ 0x0b330001 ∷ 0x0b770001 ∷ 0x11750009 ∷ 0x0b110001 ∷ 0x05260000 ∷ 0x10200006 ∷ 0x17000000 ∷
    0x01500010 ∷ 0x01600001 ∷ 0x01900002 ∷ 0x15100001 ∷ 0x01700000 ∷ 0x0c830000 ∷ 0x15800002 ∷ 0x0b330001 ∷ 0x0b770001 ∷
    0x11750017 ∷ 0x15900000 ∷ 0x0b110001 ∷ 0x05260000 ∷ 0x10200015 ∷ 0x17000000 ∷ 0x01500001 ∷ 0x0f150029 ∷ 0x01500002 ∷
    0x0f15002b ∷ 0x01500003 ∷ 0x0f15002d ∷ 0x14600008 ∷ 0x0e00002e ∷ 0x14600009 ∷ 0x0e00002e ∷ 0x1460000a ∷ 0x0e00002e ∷
    0x1460000b ∷ 0x0d630000 ∷ 0x17000000 ∷ 0x01500001 ∷ 0x0f150038 ∷ 0x01500002 ∷ 0x0f15003a ∷ 0x01500003 ∷ 0x0f15003c ∷
    0x15200008 ∷ 0x17000000 ∷ 0x15200009 ∷ 0x17000000 ∷ 0x1520000a ∷ 0x17000000 ∷ 0x1520000b ∷ 0x17000000 ∷ []

-- the image of the block driver
abbrev pub block_image : Image
block_image = record { class = class.Block; entries = 0 ∷ 4 ∷ 18 ∷ 33 ∷ 48 ∷ []; text = block_words; initial = [] }

-- the text words of a net driver: a received frame is handed up from the stack page
abbrev pub net_words : List ℕ
net_words =
    0x01100001 ∷ 0x16000003 ∷ 0x01100000 ∷ 0x17100000 ∷ 0x15200001 ∷ 0x01600001 ∷ 0x0c830000 ∷ 0x15800002 ∷ 0x0b330001 ∷
    0x05260000 ∷ 0x10200006 ∷ 0x15600000 ∷ 0x17000000 ∷ 0x14200003 ∷ 0x0f20001e ∷ 0x03720000 ∷ 0x039e0000 ∷ 0x01500040 ∷
    0x05950000 ∷ 0x03a90000 ∷ 0x01600001 ∷ 0x14800004 ∷ 0x0d890000 ∷ 0x0b990001 ∷ 0x05760000 ∷ 0x10700015 ∷ 0x01600002 ∷
    0x15600000 ∷ 0x031a0000 ∷ 0x16000006 ∷ 0x17000000 ∷ 0x01500001 ∷ 0x0f150027 ∷ 0x01500002 ∷ 0x0f150029 ∷ 0x01500003 ∷
    0x0f15002b ∷ 0x14600008 ∷ 0x0e00002c ∷ 0x14600009 ∷ 0x0e00002c ∷ 0x1460000a ∷ 0x0e00002c ∷ 0x1460000b ∷ 0x0d630000 ∷
    0x17000000 ∷ 0x01500001 ∷ 0x0f150036 ∷ 0x01500002 ∷ 0x0f150038 ∷ 0x01500003 ∷ 0x0f15003a ∷ 0x15200008 ∷ 0x17000000 ∷
    0x15200009 ∷ 0x17000000 ∷ 0x1520000a ∷ 0x17000000 ∷ 0x1520000b ∷ 0x17000000 ∷ []

-- the image of the net driver
abbrev pub net_image : Image
net_image = record { class = class.Net; entries = 0 ∷ 4 ∷ 13 ∷ 31 ∷ 46 ∷ []; text = net_words; initial = [] }

-- the text words of a sound driver: each sample is played at once
abbrev pub sound_words : List ℕ
sound_words =
    0x01100002 ∷ 0x16000003 ∷ 0x01100000 ∷ 0x17100000 ∷ 0x17000000 ∷ 0x17000000 ∷ 0x01600001 ∷ 0x0c830000 ∷ 0x15800000 ∷
    0x0b330001 ∷ 0x05260000 ∷ 0x10200007 ∷ 0x17000000 ∷ 0x01500001 ∷ 0x0f150015 ∷ 0x01500002 ∷ 0x0f150017 ∷ 0x01500003 ∷
    0x0f150019 ∷ 0x14600008 ∷ 0x0e00001a ∷ 0x14600009 ∷ 0x0e00001a ∷ 0x1460000a ∷ 0x0e00001a ∷ 0x1460000b ∷ 0x0d630000 ∷
    0x17000000 ∷ 0x01500001 ∷ 0x0f150024 ∷ 0x01500002 ∷ 0x0f150026 ∷ 0x01500003 ∷ 0x0f150028 ∷ 0x15200008 ∷ 0x17000000 ∷
    0x15200009 ∷ 0x17000000 ∷ 0x1520000a ∷ 0x17000000 ∷ 0x1520000b ∷ 0x17000000 ∷ []

-- the image of the sound driver
abbrev pub sound_image : Image
sound_image = record { class = class.Sound; entries = 0 ∷ 4 ∷ 6 ∷ 5 ∷ 13 ∷ 28 ∷ []; text = sound_words; initial = [] }
