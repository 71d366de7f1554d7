use Rattle.std.specs.Prelude.{ℕ, List, ◌++◌, codes}

-- The bytes of a scenario, and the whole report of its run.

abbrev pub write_and_read_json : List ℕ
write_and_read_json =
    codes "{\"version\":1,\"parts\":[{\"name\":\"d0\",\"class\":\"block\",\"blocks\":4,\"driver\":{\"image\":{\"class\":\"block\",\"data\":[],\"entries\":{\"get\":33,\"init\":0,\"read\":4,\"set\":33,\"write\":18},\"text\":["
    ++ codes "\"01100000\", \"16000003\", \"01100000\", \"17100000\", \"01500010\", \"01600001\", \"15100001\", \"15600000\", "
    ++ codes "\"01700000\", \"14800002\", \"0d830000\", \"0b330001\", \"0b770001\", \"11750009\", \"0b110001\", \"05260000\", "
    ++ codes "\"10200006\", \"17000000\", \"01500010\", \"01600001\", \"01900002\", \"15100001\", \"01700000\", \"0c830000\", "
    ++ codes "\"15800002\", \"0b330001\", \"0b770001\", \"11750017\", \"15900000\", \"0b110001\", \"05260000\", \"10200015\", "
    ++ codes "\"17000000\", \"18000000\""
    ++ codes "]}}}],\"threads\":["
    ++ codes "{\"name\":\"t0\",\"ops\":[{\"part\":0,\"op\":\"write\",\"first\":1,\"data\":[1,2,3,4,5,6,7,8,9,10,11,12,13,14,15,16]},"
    ++ codes "{\"part\":0,\"op\":\"read\",\"first\":1,\"count\":1}]}]}"

abbrev pub write_and_read_text : List ℕ
write_and_read_text =
    codes "part 0 d0 block limit 0\n"
    ++ codes "1 invoke c1 t0 write 1 [1,2,3,4,5,6,7,8,9,10,11,12,13,14,15,16]\n"
    ++ codes "2 stage load\n"
    ++ codes "3 stage init\n"
    ++ codes "4 burst x16 c0 b1 n2 service 3 0 0 = 0\n"
    ++ codes "5 burst x16 c0 b2 n2 reply 0\n"
    ++ codes "6 stage resume\n"
    ++ codes "7 enter c1 x0 try 1\n"
    ++ codes "8 burst x0 c1 b3 n90 reply 0 | store 1 [1,2,3,4,5,6,7,8,9,10,11,12,13,14,15,16] -> done\n"
    ++ codes "9 invoke c2 t0 read 1 1\n"
    ++ codes "10 enter c2 x0 try 1\n"
    ++ codes "11 burst x0 c2 b4 n89 reply 0 | load 1 -> data [1,2,3,4,5,6,7,8,9,10,11,12,13,14,15,16]\n"
    ++ codes "disk 1 [1,2,3,4,5,6,7,8,9,10,11,12,13,14,15,16]\n"
    ++ codes "config 0 0 0 0\n"
    ++ codes "failures 0\n"
    ++ codes "contract kept\n"
    ++ codes "thread 0 t0\n"
    ++ codes "1 p0 done\n"
    ++ codes "2 p0 data [1,2,3,4,5,6,7,8,9,10,11,12,13,14,15,16]\n"
    ++ codes "status 0\n"
