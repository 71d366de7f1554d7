use Rattle.std.specs.Prelude.{ℕ, List, [], ◌∷◌, ◌++◌, replicate, codes}
use Rattle.nook_data.specs.declared.scenario.FaultKind.TheVariants as fault
use Rattle.nook_data.specs.declared.calls.Op.TheVariants as op
use Rattle.nook_data.specs.declared.scenario.Scenario.{Scenario}
use Rattle.nook_data.specs.declared.scenario.ScheduleSpec.TheVariants as schedule
use Rattle.worked_rows.specs.Scenarios.{driver, strike, disk, thread}

-- Runs of drivers that do something forbidden, and what stops them.

abbrev pub init_writes_an_object : Scenario
init_writes_an_object = record {
  schedule = schedule.RoundRobin;
  parts = disk 4 0 (driver (codes ".class block\n" ++ codes ".entry init init\n" ++ codes ".entry read init\n"
      ++ codes ".entry write init\n" ++ codes ".entry get init\n" ++ codes ".entry set init\n"
      ++ codes "init: LI r1 7360\n" ++ codes "ST r0 r1 0\n")) [] ∷ [];
  threads = [];
}

abbrev pub init_writes_an_object_report : List ℕ
init_writes_an_object_report =
    codes "part 0 d0 block limit 0\n"
    ++ codes "1 stage load\n"
    ++ codes "2 stage init\n"
    ++ codes "3 burst x16 c0 b1 n2 trap ! trap foreign_write 7360\n"
    ++ codes "4 stage stop\n"
    ++ codes "5 stage collect\n"
    ++ codes "config 0 0 0 0\n"
    ++ codes "failures 1\n"
    ++ codes "contract kept\n"
    ++ codes "status 1\n"

abbrev pub buffer_lent_for_one_call : Scenario
buffer_lent_for_one_call = record {
  schedule = schedule.RoundRobin;
  parts = disk 1 0 (driver (codes ".class block\n" ++ codes ".entry init init\n" ++ codes ".entry read rd\n"
      ++ codes ".entry write init\n" ++ codes ".entry get init\n" ++ codes ".entry set st\n" ++ codes "init: LI r1 0\n"
      ++ codes "KCALL 3\n" ++ codes "LI r1 0\n" ++ codes "RET r1\n" ++ codes "rd: ST r0 r3 0\n" ++ codes "RET r0\n"
      ++ codes "st: LI r5 5184\n" ++ codes "ST r0 r5 0\n")) [] ∷ [];
  threads = thread (codes "t0") ((0, op.Read 0 1) ∷ (0, op.Set 0 1) ∷ []) ∷ [];
}

abbrev pub buffer_lent_for_one_call_report : List ℕ
buffer_lent_for_one_call_report =
    codes "part 0 d0 block limit 0\n"
    ++ codes "1 invoke c1 t0 read 0 1\n"
    ++ codes "2 stage load\n"
    ++ codes "3 stage init\n"
    ++ codes "4 burst x16 c0 b1 n2 service 3 0 0 = 0\n"
    ++ codes "5 burst x16 c0 b2 n2 reply 0\n"
    ++ codes "6 stage resume\n"
    ++ codes "7 enter c1 x0 try 1\n"
    ++ codes "8 burst x0 c1 b3 n2 reply 0 -> data [0,0,0,0,0,0,0,0,0,0,0,0,0,0,0,0]\n"
    ++ codes "9 invoke c2 t0 set 0 1\n"
    ++ codes "10 enter c2 x0 try 1\n"
    ++ codes "11 burst x0 c2 b4 n2 trap ! trap foreign_write 5184\n"
    ++ codes "12 stage stop -> c2 gone 1\n"
    ++ codes "13 stage collect\n"
    ++ codes "config 0 0 0 0\n"
    ++ codes "failures 1\n"
    ++ codes "contract kept\n"
    ++ codes "thread 0 t0\n"
    ++ codes "1 p0 data [0,0,0,0,0,0,0,0,0,0,0,0,0,0,0,0]\n"
    ++ codes "2 p0 gone 1\n"
    ++ codes "status 1\n"

abbrev pub no_such_instruction : Scenario
no_such_instruction = record {
  schedule = schedule.RoundRobin;
  parts = disk 4 0 (driver (codes ".class block\n" ++ codes ".entry init init\n" ++ codes ".entry read init\n"
      ++ codes ".entry write init\n" ++ codes ".entry get init\n" ++ codes ".entry set init\n"
      ++ codes "init: .word 385875969\n")) [] ∷ [];
  threads = [];
}

abbrev pub no_such_instruction_report : List ℕ
no_such_instruction_report =
    codes "part 0 d0 block limit 0\n"
    ++ codes "1 stage load\n"
    ++ codes "2 stage init\n"
    ++ codes "3 burst x16 c0 b1 n1 trap ! trap bad_opcode\n"
    ++ codes "4 stage stop\n"
    ++ codes "5 stage collect\n"
    ++ codes "config 0 0 0 0\n"
    ++ codes "failures 1\n"
    ++ codes "contract kept\n"
    ++ codes "status 1\n"

abbrev pub jump_to_itself : Scenario
jump_to_itself = record {
  schedule = schedule.RoundRobin;
  parts = disk 4 0 (driver (codes ".class block\n" ++ codes ".entry init init\n" ++ codes ".entry read init\n"
      ++ codes ".entry write init\n" ++ codes ".entry get init\n" ++ codes ".entry set init\n"
      ++ codes "init: JMP 0\n")) [] ∷ [];
  threads = [];
}

abbrev pub jump_to_itself_report : List ℕ
jump_to_itself_report =
    codes "part 0 d0 block limit 0\n"
    ++ codes "1 stage load\n"
    ++ codes "2 stage init\n"
    ++ codes "3 burst x16 c0 b1 n4096 trap ! trap hang\n"
    ++ codes "4 stage stop\n"
    ++ codes "5 stage collect\n"
    ++ codes "config 0 0 0 0\n"
    ++ codes "failures 1\n"
    ++ codes "contract kept\n"
    ++ codes "status 1\n"

abbrev pub crossing_at_the_last_turn : Scenario
crossing_at_the_last_turn = record {
  schedule = schedule.RoundRobin;
  parts = disk 4 0 (driver (codes ".class block\n" ++ codes ".entry init init\n" ++ codes ".entry read init\n"
      ++ codes ".entry write init\n" ++ codes ".entry get init\n" ++ codes ".entry set init\n"
      ++ codes "init: LI r1 0\n" ++ codes "LI r5 2046\n" ++ codes "LI r6 1\n" ++ codes "SUB r5 r6\n"
      ++ codes "BNE r5 r0 3\n" ++ codes "KCALL 3\n")) [] ∷ [];
  threads = [];
}

abbrev pub crossing_at_the_last_turn_report : List ℕ
crossing_at_the_last_turn_report =
    codes "part 0 d0 block limit 0\n"
    ++ codes "1 stage load\n"
    ++ codes "2 stage init\n"
    ++ codes "3 burst x16 c0 b1 n4096 service 3 0 0 = 0\n"
    ++ codes "4 burst x16 c0 b2 n1 trap ! trap bad_opcode\n"
    ++ codes "5 stage stop\n"
    ++ codes "6 stage collect\n"
    ++ codes "config 0 0 0 0\n"
    ++ codes "failures 1\n"
    ++ codes "contract kept\n"
    ++ codes "status 1\n"

abbrev pub sixty_four_allocations : Scenario
sixty_four_allocations = record {
  schedule = schedule.RoundRobin;
  parts = disk 1 0 (driver (codes ".class block\n" ++ codes ".entry init init\n" ++ codes ".entry read rd\n"
      ++ codes ".entry write init\n" ++ codes ".entry get init\n" ++ codes ".entry set init\n"
      ++ codes "init: LI r1 0\n" ++ codes "KCALL 3\n" ++ codes "LI r1 0\n" ++ codes "RET r1\n" ++ codes "rd: LI r5 22\n"
      ++ codes "LI r6 1\n" ++ codes "loop: LI r1 1\n" ++ codes "KCALL 1\n" ++ codes "SUB r5 r6\n"
      ++ codes "BNE r5 r0 loop\n" ++ codes "BEQ r1 r0 stop\n" ++ codes "RET r0\n" ++ codes "stop: FAULT\n")) [] ∷ [];
  threads = thread (codes "t0") ((0, op.Read 0 1) ∷ (0, op.Read 0 1) ∷ (0, op.Read 0 1) ∷ []) ∷ [];
}

abbrev pub sixty_four_allocations_report : List ℕ
sixty_four_allocations_report =
    codes "part 0 d0 block limit 0\n"
    ++ codes "1 invoke c1 t0 read 0 1\n"
    ++ codes "2 stage load\n"
    ++ codes "3 stage init\n"
    ++ codes "4 burst x16 c0 b1 n2 service 3 0 0 = 0\n"
    ++ codes "5 burst x16 c0 b2 n2 reply 0\n"
    ++ codes "6 stage resume\n"
    ++ codes "7 enter c1 x0 try 1\n"
    ++ codes "8 burst x0 c1 b3 n4 service 1 1 1 = 2048\n"
    ++ codes "9 burst x0 c1 b4 n4 service 1 1 1 = 2049\n"
    ++ codes "10 burst x0 c1 b5 n4 service 1 1 1 = 2050\n"
    ++ codes "11 burst x0 c1 b6 n4 service 1 1 1 = 2051\n"
    ++ codes "12 burst x0 c1 b7 n4 service 1 1 1 = 2052\n"
    ++ codes "13 burst x0 c1 b8 n4 service 1 1 1 = 2053\n"
    ++ codes "14 burst x0 c1 b9 n4 service 1 1 1 = 2054\n"
    ++ codes "15 burst x0 c1 b10 n4 service 1 1 1 = 2055\n"
    ++ codes "16 burst x0 c1 b11 n4 service 1 1 1 = 2056\n"
    ++ codes "17 burst x0 c1 b12 n4 service 1 1 1 = 2057\n"
    ++ codes "18 burst x0 c1 b13 n4 service 1 1 1 = 2058\n"
    ++ codes "19 burst x0 c1 b14 n4 service 1 1 1 = 2059\n"
    ++ codes "20 burst x0 c1 b15 n4 service 1 1 1 = 2060\n"
    ++ codes "21 burst x0 c1 b16 n4 service 1 1 1 = 2061\n"
    ++ codes "22 burst x0 c1 b17 n4 service 1 1 1 = 2062\n"
    ++ codes "23 burst x0 c1 b18 n4 service 1 1 1 = 2063\n"
    ++ codes "24 burst x0 c1 b19 n4 service 1 1 1 = 2064\n"
    ++ codes "25 burst x0 c1 b20 n4 service 1 1 1 = 2065\n"
    ++ codes "26 burst x0 c1 b21 n4 service 1 1 1 = 2066\n"
    ++ codes "27 burst x0 c1 b22 n4 service 1 1 1 = 2067\n"
    ++ codes "28 burst x0 c1 b23 n4 service 1 1 1 = 2068\n"
    ++ codes "29 burst x0 c1 b24 n4 service 1 1 1 = 2069\n"
    ++ codes "30 burst x0 c1 b25 n4 reply 0 -> data [0,0,0,0,0,0,0,0,0,0,0,0,0,0,0,0]\n"
    ++ codes "31 invoke c2 t0 read 0 1\n"
    ++ codes "32 enter c2 x0 try 1\n"
    ++ codes "33 burst x0 c2 b26 n4 service 1 1 1 = 2070\n"
    ++ codes "34 burst x0 c2 b27 n4 service 1 1 1 = 2071\n"
    ++ codes "35 burst x0 c2 b28 n4 service 1 1 1 = 2072\n"
    ++ codes "36 burst x0 c2 b29 n4 service 1 1 1 = 2073\n"
    ++ codes "37 burst x0 c2 b30 n4 service 1 1 1 = 2074\n"
    ++ codes "38 burst x0 c2 b31 n4 service 1 1 1 = 2075\n"
    ++ codes "39 burst x0 c2 b32 n4 service 1 1 1 = 2076\n"
    ++ codes "40 burst x0 c2 b33 n4 service 1 1 1 = 2077\n"
    ++ codes "41 burst x0 c2 b34 n4 service 1 1 1 = 2078\n"
    ++ codes "42 burst x0 c2 b35 n4 service 1 1 1 = 2079\n"
    ++ codes "43 burst x0 c2 b36 n4 service 1 1 1 = 2080\n"
    ++ codes "44 burst x0 c2 b37 n4 service 1 1 1 = 2081\n"
    ++ codes "45 burst x0 c2 b38 n4 service 1 1 1 = 2082\n"
    ++ codes "46 burst x0 c2 b39 n4 service 1 1 1 = 2083\n"
    ++ codes "47 burst x0 c2 b40 n4 service 1 1 1 = 2084\n"
    ++ codes "48 burst x0 c2 b41 n4 service 1 1 1 = 2085\n"
    ++ codes "49 burst x0 c2 b42 n4 service 1 1 1 = 2086\n"
    ++ codes "50 burst x0 c2 b43 n4 service 1 1 1 = 2087\n"
    ++ codes "51 burst x0 c2 b44 n4 service 1 1 1 = 2088\n"
    ++ codes "52 burst x0 c2 b45 n4 service 1 1 1 = 2089\n"
    ++ codes "53 burst x0 c2 b46 n4 service 1 1 1 = 2090\n"
    ++ codes "54 burst x0 c2 b47 n4 service 1 1 1 = 2091\n"
    ++ codes "55 burst x0 c2 b48 n4 reply 0 -> data [0,0,0,0,0,0,0,0,0,0,0,0,0,0,0,0]\n"
    ++ codes "56 invoke c3 t0 read 0 1\n"
    ++ codes "57 enter c3 x0 try 1\n"
    ++ codes "58 burst x0 c3 b49 n4 service 1 1 1 = 2092\n"
    ++ codes "59 burst x0 c3 b50 n4 service 1 1 1 = 2093\n"
    ++ codes "60 burst x0 c3 b51 n4 service 1 1 1 = 2094\n"
    ++ codes "61 burst x0 c3 b52 n4 service 1 1 1 = 2095\n"
    ++ codes "62 burst x0 c3 b53 n4 service 1 1 1 = 2096\n"
    ++ codes "63 burst x0 c3 b54 n4 service 1 1 1 = 2097\n"
    ++ codes "64 burst x0 c3 b55 n4 service 1 1 1 = 2098\n"
    ++ codes "65 burst x0 c3 b56 n4 service 1 1 1 = 2099\n"
    ++ codes "66 burst x0 c3 b57 n4 service 1 1 1 = 2100\n"
    ++ codes "67 burst x0 c3 b58 n4 service 1 1 1 = 2101\n"
    ++ codes "68 burst x0 c3 b59 n4 service 1 1 1 = 2102\n"
    ++ codes "69 burst x0 c3 b60 n4 service 1 1 1 = 2103\n"
    ++ codes "70 burst x0 c3 b61 n4 service 1 1 1 = 2104\n"
    ++ codes "71 burst x0 c3 b62 n4 service 1 1 1 = 2105\n"
    ++ codes "72 burst x0 c3 b63 n4 service 1 1 1 = 2106\n"
    ++ codes "73 burst x0 c3 b64 n4 service 1 1 1 = 2107\n"
    ++ codes "74 burst x0 c3 b65 n4 service 1 1 1 = 2108\n"
    ++ codes "75 burst x0 c3 b66 n4 service 1 1 1 = 2109\n"
    ++ codes "76 burst x0 c3 b67 n4 service 1 1 1 = 2110\n"
    ++ codes "77 burst x0 c3 b68 n4 service 1 1 1 = 2111\n"
    ++ codes "78 burst x0 c3 b69 n4 service 1 1 1 = 0\n"
    ++ codes "79 burst x0 c3 b70 n4 service 1 1 1 = 0\n"
    ++ codes "80 burst x0 c3 b71 n4 trap ! trap explicit\n"
    ++ codes "81 stage stop -> c3 gone 1\n"
    ++ codes "82 stage collect heap 2048 1 heap 2049 1 heap 2050 1 heap 2051 1 heap 2052 1 heap 2053 1 heap 2054 1 heap 2055 1 heap 2056 1 heap 2057 1 heap 2058 1 heap 2059 1 heap 2060 1 heap 2061 1 heap 2062 1 heap 2063 1 heap 2064 1 heap 2065 1 heap 2066 1 heap 2067 1 heap 2068 1 heap 2069 1 heap 2070 1 heap 2071 1 heap 2072 1 heap 2073 1 heap 2074 1 heap 2075 1 heap 2076 1 heap 2077 1 heap 2078 1 heap 2079 1 heap 2080 1 heap 2081 1 heap 2082 1 heap 2083 1 heap 2084 1 heap 2085 1 heap 2086 1 heap 2087 1 heap 2088 1 heap 2089 1 heap 2090 1 heap 2091 1 heap 2092 1 heap 2093 1 heap 2094 1 heap 2095 1 heap 2096 1 heap 2097 1 heap 2098 1 heap 2099 1 heap 2100 1 heap 2101 1 heap 2102 1 heap 2103 1 heap 2104 1 heap 2105 1 heap 2106 1 heap 2107 1 heap 2108 1 heap 2109 1 heap 2110 1 heap 2111 1 buffer 0 write\n"
    ++ codes "config 0 0 0 0\n"
    ++ codes "failures 1\n"
    ++ codes "contract kept\n"
    ++ codes "thread 0 t0\n"
    ++ codes "1 p0 data [0,0,0,0,0,0,0,0,0,0,0,0,0,0,0,0]\n"
    ++ codes "2 p0 data [0,0,0,0,0,0,0,0,0,0,0,0,0,0,0,0]\n"
    ++ codes "3 p0 gone 1\n"
    ++ codes "status 1\n"

abbrev pub borrowed_copy_not_written_back : Scenario
borrowed_copy_not_written_back = record {
  schedule = schedule.RoundRobin;
  parts = disk 4 0 (driver (codes ".class block\n" ++ codes ".entry init init\n" ++ codes ".entry read init\n"
      ++ codes ".entry write init\n" ++ codes ".entry get init\n" ++ codes ".entry set init\n"
      ++ codes "init: LI r1 0\n" ++ codes "KCALL 3\n" ++ codes "LI r1 1\n" ++ codes "KCALL 4\n" ++ codes "LI r5 77\n"
      ++ codes "ST r5 r1 5\n" ++ codes "LI r1 1\n" ++ codes "KCALL 5\n" ++ codes "LI r1 2\n" ++ codes "KCALL 4\n"
      ++ codes "LI r5 78\n" ++ codes "ST r5 r1 5\n" ++ codes "FAULT\n")) [] ∷ [];
  threads = [];
}

abbrev pub borrowed_copy_not_written_back_report : List ℕ
borrowed_copy_not_written_back_report =
    codes "part 0 d0 block limit 0\n"
    ++ codes "1 stage load\n"
    ++ codes "2 stage init\n"
    ++ codes "3 burst x16 c0 b1 n2 service 3 0 0 = 0\n"
    ++ codes "4 burst x16 c0 b2 n2 service 4 1 0 = 2048\n"
    ++ codes "5 burst x16 c0 b3 n4 service 5 1 0 = 0 [1,0,0,0,0,77,0,0,0,0,0,0,0,0,0,0,0,0,0,0,0,0,0,0,0,0,0,0,0,0,0,0,0,0,0,0,0,0,0,0,0,0,0,0,0,0,0,0,0,0,0,0,0,0,0,0,0,0,0,0,0,0,0,0]\n"
    ++ codes "6 burst x16 c0 b4 n2 service 4 2 0 = 2048\n"
    ++ codes "7 burst x16 c0 b5 n3 trap ! trap explicit\n"
    ++ codes "8 stage stop\n"
    ++ codes "9 stage collect borrow 2 2048\n"
    ++ codes "object 1 [1,0,0,0,0,77,0,0,0,0,0,0,0,0,0,0,0,0,0,0,0,0,0,0,0,0,0,0,0,0,0,0,0,0,0,0,0,0,0,0,0,0,0,0,0,0,0,0,0,0,0,0,0,0,0,0,0,0,0,0,0,0,0,0]\n"
    ++ codes "config 0 0 0 0\n"
    ++ codes "failures 1\n"
    ++ codes "contract kept\n"
    ++ codes "status 1\n"

abbrev pub buffer_lent_for_reading : Scenario
buffer_lent_for_reading = record {
  schedule = schedule.RoundRobin;
  parts = disk 1 0 (driver (codes ".class block\n" ++ codes ".entry init init\n" ++ codes ".entry read init\n"
      ++ codes ".entry write wr\n" ++ codes ".entry get init\n" ++ codes ".entry set init\n" ++ codes "init: LI r1 0\n"
      ++ codes "KCALL 3\n" ++ codes "LI r1 0\n" ++ codes "RET r1\n" ++ codes "wr: ST r0 r3 0\n")) [] ∷ [];
  threads = thread (codes "t0") ((0, op.Write 0 (replicate 16 3)) ∷ []) ∷ [];
}

abbrev pub buffer_lent_for_reading_report : List ℕ
buffer_lent_for_reading_report =
    codes "part 0 d0 block limit 0\n"
    ++ codes "1 invoke c1 t0 write 0 [3,3,3,3,3,3,3,3,3,3,3,3,3,3,3,3]\n"
    ++ codes "2 stage load\n"
    ++ codes "3 stage init\n"
    ++ codes "4 burst x16 c0 b1 n2 service 3 0 0 = 0\n"
    ++ codes "5 burst x16 c0 b2 n2 reply 0\n"
    ++ codes "6 stage resume\n"
    ++ codes "7 enter c1 x0 try 1\n"
    ++ codes "8 burst x0 c1 b3 n1 trap ! trap foreign_write 5184\n"
    ++ codes "9 stage stop -> c1 gone 1\n"
    ++ codes "10 stage collect buffer 0 read\n"
    ++ codes "config 0 0 0 0\n"
    ++ codes "failures 1\n"
    ++ codes "contract kept\n"
    ++ codes "thread 0 t0\n"
    ++ codes "1 p0 gone 1\n"
    ++ codes "status 1\n"

abbrev pub yields_without_end : Scenario
yields_without_end = record {
  schedule = schedule.RoundRobin;
  parts = disk 4 0 (driver (codes ".class block\n" ++ codes ".entry init init\n" ++ codes ".entry read init\n"
      ++ codes ".entry write init\n" ++ codes ".entry get init\n" ++ codes ".entry set init\n" ++ codes "init: \n"
      ++ codes "k: KCALL 8\n" ++ codes "JMP k\n")) [] ∷ [];
  threads = [];
}

abbrev pub yields_without_end_report : List ℕ
yields_without_end_report =
    codes "part 0 d0 block limit 0\n"
    ++ codes "1 stage load\n"
    ++ codes "2 stage init\n"
    ++ codes "3 burst x16 c0 b1 n1 service 8 0 0 = 0\n"
    ++ codes "4 burst x16 c0 b2 n2 service 8 0 0 = 0\n"
    ++ codes "5 burst x16 c0 b3 n2 service 8 0 0 = 0\n"
    ++ codes "6 burst x16 c0 b4 n2 service 8 0 0 = 0\n"
    ++ codes "7 burst x16 c0 b5 n2 service 8 0 0 = 0\n"
    ++ codes "8 burst x16 c0 b6 n2 service 8 0 0 = 0\n"
    ++ codes "9 burst x16 c0 b7 n2 service 8 0 0 = 0\n"
    ++ codes "10 burst x16 c0 b8 n2 service 8 0 0 = 0\n"
    ++ codes "11 burst x16 c0 b9 n2 service 8 0 0 = 0\n"
    ++ codes "12 burst x16 c0 b10 n2 service 8 0 0 = 0\n"
    ++ codes "13 burst x16 c0 b11 n2 service 8 0 0 = 0\n"
    ++ codes "14 burst x16 c0 b12 n2 service 8 0 0 = 0\n"
    ++ codes "15 burst x16 c0 b13 n2 service 8 0 0 = 0\n"
    ++ codes "16 burst x16 c0 b14 n2 service 8 0 0 = 0\n"
    ++ codes "17 burst x16 c0 b15 n2 service 8 0 0 = 0\n"
    ++ codes "18 burst x16 c0 b16 n2 service 8 0 0 = 0\n"
    ++ codes "19 burst x16 c0 b17 n2 service 8 0 0 = 0\n"
    ++ codes "20 burst x16 c0 b18 n2 service 8 0 0 = 0\n"
    ++ codes "21 burst x16 c0 b19 n2 service 8 0 0 = 0\n"
    ++ codes "22 burst x16 c0 b20 n2 service 8 0 0 = 0\n"
    ++ codes "23 burst x16 c0 b21 n2 service 8 0 0 = 0\n"
    ++ codes "24 burst x16 c0 b22 n2 service 8 0 0 = 0\n"
    ++ codes "25 burst x16 c0 b23 n2 service 8 0 0 = 0\n"
    ++ codes "26 burst x16 c0 b24 n2 service 8 0 0 = 0\n"
    ++ codes "27 burst x16 c0 b25 n2 service 8 0 0 = 0\n"
    ++ codes "28 burst x16 c0 b26 n2 service 8 0 0 = 0\n"
    ++ codes "29 burst x16 c0 b27 n2 service 8 0 0 = 0\n"
    ++ codes "30 burst x16 c0 b28 n2 service 8 0 0 = 0\n"
    ++ codes "31 burst x16 c0 b29 n2 service 8 0 0 = 0\n"
    ++ codes "32 burst x16 c0 b30 n2 service 8 0 0 = 0\n"
    ++ codes "33 burst x16 c0 b31 n2 service 8 0 0 = 0\n"
    ++ codes "34 burst x16 c0 b32 n2 service 8 0 0 ! too_many_crossings\n"
    ++ codes "35 stage stop\n"
    ++ codes "36 stage collect\n"
    ++ codes "config 0 0 0 0\n"
    ++ codes "failures 1\n"
    ++ codes "contract kept\n"
    ++ codes "status 1\n"

abbrev pub pauses_without_end : Scenario
pauses_without_end = record {
  schedule = schedule.RoundRobin;
  parts = disk 1 0 (driver (codes ".class block\n" ++ codes ".entry init init\n" ++ codes ".entry read init\n"
      ++ codes ".entry write init\n" ++ codes ".entry get init\n" ++ codes ".entry set init\n"
      ++ codes "init: LI r6 1\n" ++ codes "p: OUT r6 0\n" ++ codes "JMP p\n")) [] ∷ [];
  threads = [];
}

abbrev pub pauses_without_end_report : List ℕ
pauses_without_end_report =
    codes "part 0 d0 block limit 0\n"
    ++ codes "1 stage load\n"
    ++ codes "2 stage init\n"
    ++ codes "3 burst x16 c0 b1 n128 pause | load 0 | load 0 | load 0 | load 0 | load 0 | load 0 | load 0 | load 0 | load 0 | load 0 | load 0 | load 0 | load 0 | load 0 | load 0 | load 0 | load 0 | load 0 | load 0 | load 0 | load 0 | load 0 | load 0 | load 0 | load 0 | load 0 | load 0 | load 0 | load 0 | load 0 | load 0 | load 0 | load 0 | load 0 | load 0 | load 0 | load 0 | load 0 | load 0 | load 0 | load 0 | load 0 | load 0 | load 0 | load 0 | load 0 | load 0 | load 0 | load 0 | load 0 | load 0 | load 0 | load 0 | load 0 | load 0 | load 0 | load 0 | load 0 | load 0 | load 0 | load 0 | load 0 | load 0 | load 0\n"
    ++ codes "4 burst x16 c0 b2 n128 pause | load 0 | load 0 | load 0 | load 0 | load 0 | load 0 | load 0 | load 0 | load 0 | load 0 | load 0 | load 0 | load 0 | load 0 | load 0 | load 0 | load 0 | load 0 | load 0 | load 0 | load 0 | load 0 | load 0 | load 0 | load 0 | load 0 | load 0 | load 0 | load 0 | load 0 | load 0 | load 0 | load 0 | load 0 | load 0 | load 0 | load 0 | load 0 | load 0 | load 0 | load 0 | load 0 | load 0 | load 0 | load 0 | load 0 | load 0 | load 0 | load 0 | load 0 | load 0 | load 0 | load 0 | load 0 | load 0 | load 0 | load 0 | load 0 | load 0 | load 0 | load 0 | load 0 | load 0 | load 0\n"
    ++ codes "5 burst x16 c0 b3 n128 pause | load 0 | load 0 | load 0 | load 0 | load 0 | load 0 | load 0 | load 0 | load 0 | load 0 | load 0 | load 0 | load 0 | load 0 | load 0 | load 0 | load 0 | load 0 | load 0 | load 0 | load 0 | load 0 | load 0 | load 0 | load 0 | load 0 | load 0 | load 0 | load 0 | load 0 | load 0 | load 0 | load 0 | load 0 | load 0 | load 0 | load 0 | load 0 | load 0 | load 0 | load 0 | load 0 | load 0 | load 0 | load 0 | load 0 | load 0 | load 0 | load 0 | load 0 | load 0 | load 0 | load 0 | load 0 | load 0 | load 0 | load 0 | load 0 | load 0 | load 0 | load 0 | load 0 | load 0 | load 0\n"
    ++ codes "6 burst x16 c0 b4 n128 pause | load 0 | load 0 | load 0 | load 0 | load 0 | load 0 | load 0 | load 0 | load 0 | load 0 | load 0 | load 0 | load 0 | load 0 | load 0 | load 0 | load 0 | load 0 | load 0 | load 0 | load 0 | load 0 | load 0 | load 0 | load 0 | load 0 | load 0 | load 0 | load 0 | load 0 | load 0 | load 0 | load 0 | load 0 | load 0 | load 0 | load 0 | load 0 | load 0 | load 0 | load 0 | load 0 | load 0 | load 0 | load 0 | load 0 | load 0 | load 0 | load 0 | load 0 | load 0 | load 0 | load 0 | load 0 | load 0 | load 0 | load 0 | load 0 | load 0 | load 0 | load 0 | load 0 | load 0 | load 0\n"
    ++ codes "7 burst x16 c0 b5 n128 pause | load 0 | load 0 | load 0 | load 0 | load 0 | load 0 | load 0 | load 0 | load 0 | load 0 | load 0 | load 0 | load 0 | load 0 | load 0 | load 0 | load 0 | load 0 | load 0 | load 0 | load 0 | load 0 | load 0 | load 0 | load 0 | load 0 | load 0 | load 0 | load 0 | load 0 | load 0 | load 0 | load 0 | load 0 | load 0 | load 0 | load 0 | load 0 | load 0 | load 0 | load 0 | load 0 | load 0 | load 0 | load 0 | load 0 | load 0 | load 0 | load 0 | load 0 | load 0 | load 0 | load 0 | load 0 | load 0 | load 0 | load 0 | load 0 | load 0 | load 0 | load 0 | load 0 | load 0 | load 0\n"
    ++ codes "8 burst x16 c0 b6 n128 pause | load 0 | load 0 | load 0 | load 0 | load 0 | load 0 | load 0 | load 0 | load 0 | load 0 | load 0 | load 0 | load 0 | load 0 | load 0 | load 0 | load 0 | load 0 | load 0 | load 0 | load 0 | load 0 | load 0 | load 0 | load 0 | load 0 | load 0 | load 0 | load 0 | load 0 | load 0 | load 0 | load 0 | load 0 | load 0 | load 0 | load 0 | load 0 | load 0 | load 0 | load 0 | load 0 | load 0 | load 0 | load 0 | load 0 | load 0 | load 0 | load 0 | load 0 | load 0 | load 0 | load 0 | load 0 | load 0 | load 0 | load 0 | load 0 | load 0 | load 0 | load 0 | load 0 | load 0 | load 0\n"
    ++ codes "9 burst x16 c0 b7 n128 pause | load 0 | load 0 | load 0 | load 0 | load 0 | load 0 | load 0 | load 0 | load 0 | load 0 | load 0 | load 0 | load 0 | load 0 | load 0 | load 0 | load 0 | load 0 | load 0 | load 0 | load 0 | load 0 | load 0 | load 0 | load 0 | load 0 | load 0 | load 0 | load 0 | load 0 | load 0 | load 0 | load 0 | load 0 | load 0 | load 0 | load 0 | load 0 | load 0 | load 0 | load 0 | load 0 | load 0 | load 0 | load 0 | load 0 | load 0 | load 0 | load 0 | load 0 | load 0 | load 0 | load 0 | load 0 | load 0 | load 0 | load 0 | load 0 | load 0 | load 0 | load 0 | load 0 | load 0 | load 0\n"
    ++ codes "10 burst x16 c0 b8 n128 pause | load 0 | load 0 | load 0 | load 0 | load 0 | load 0 | load 0 | load 0 | load 0 | load 0 | load 0 | load 0 | load 0 | load 0 | load 0 | load 0 | load 0 | load 0 | load 0 | load 0 | load 0 | load 0 | load 0 | load 0 | load 0 | load 0 | load 0 | load 0 | load 0 | load 0 | load 0 | load 0 | load 0 | load 0 | load 0 | load 0 | load 0 | load 0 | load 0 | load 0 | load 0 | load 0 | load 0 | load 0 | load 0 | load 0 | load 0 | load 0 | load 0 | load 0 | load 0 | load 0 | load 0 | load 0 | load 0 | load 0 | load 0 | load 0 | load 0 | load 0 | load 0 | load 0 | load 0 | load 0\n"
    ++ codes "11 burst x16 c0 b9 n128 pause | load 0 | load 0 | load 0 | load 0 | load 0 | load 0 | load 0 | load 0 | load 0 | load 0 | load 0 | load 0 | load 0 | load 0 | load 0 | load 0 | load 0 | load 0 | load 0 | load 0 | load 0 | load 0 | load 0 | load 0 | load 0 | load 0 | load 0 | load 0 | load 0 | load 0 | load 0 | load 0 | load 0 | load 0 | load 0 | load 0 | load 0 | load 0 | load 0 | load 0 | load 0 | load 0 | load 0 | load 0 | load 0 | load 0 | load 0 | load 0 | load 0 | load 0 | load 0 | load 0 | load 0 | load 0 | load 0 | load 0 | load 0 | load 0 | load 0 | load 0 | load 0 | load 0 | load 0 | load 0\n"
    ++ codes "12 burst x16 c0 b10 n128 pause | load 0 | load 0 | load 0 | load 0 | load 0 | load 0 | load 0 | load 0 | load 0 | load 0 | load 0 | load 0 | load 0 | load 0 | load 0 | load 0 | load 0 | load 0 | load 0 | load 0 | load 0 | load 0 | load 0 | load 0 | load 0 | load 0 | load 0 | load 0 | load 0 | load 0 | load 0 | load 0 | load 0 | load 0 | load 0 | load 0 | load 0 | load 0 | load 0 | load 0 | load 0 | load 0 | load 0 | load 0 | load 0 | load 0 | load 0 | load 0 | load 0 | load 0 | load 0 | load 0 | load 0 | load 0 | load 0 | load 0 | load 0 | load 0 | load 0 | load 0 | load 0 | load 0 | load 0 | load 0\n"
    ++ codes "13 burst x16 c0 b11 n128 pause | load 0 | load 0 | load 0 | load 0 | load 0 | load 0 | load 0 | load 0 | load 0 | load 0 | load 0 | load 0 | load 0 | load 0 | load 0 | load 0 | load 0 | load 0 | load 0 | load 0 | load 0 | load 0 | load 0 | load 0 | load 0 | load 0 | load 0 | load 0 | load 0 | load 0 | load 0 | load 0 | load 0 | load 0 | load 0 | load 0 | load 0 | load 0 | load 0 | load 0 | load 0 | load 0 | load 0 | load 0 | load 0 | load 0 | load 0 | load 0 | load 0 | load 0 | load 0 | load 0 | load 0 | load 0 | load 0 | load 0 | load 0 | load 0 | load 0 | load 0 | load 0 | load 0 | load 0 | load 0\n"
    ++ codes "14 burst x16 c0 b12 n128 pause | load 0 | load 0 | load 0 | load 0 | load 0 | load 0 | load 0 | load 0 | load 0 | load 0 | load 0 | load 0 | load 0 | load 0 | load 0 | load 0 | load 0 | load 0 | load 0 | load 0 | load 0 | load 0 | load 0 | load 0 | load 0 | load 0 | load 0 | load 0 | load 0 | load 0 | load 0 | load 0 | load 0 | load 0 | load 0 | load 0 | load 0 | load 0 | load 0 | load 0 | load 0 | load 0 | load 0 | load 0 | load 0 | load 0 | load 0 | load 0 | load 0 | load 0 | load 0 | load 0 | load 0 | load 0 | load 0 | load 0 | load 0 | load 0 | load 0 | load 0 | load 0 | load 0 | load 0 | load 0\n"
    ++ codes "15 burst x16 c0 b13 n128 pause | load 0 | load 0 | load 0 | load 0 | load 0 | load 0 | load 0 | load 0 | load 0 | load 0 | load 0 | load 0 | load 0 | load 0 | load 0 | load 0 | load 0 | load 0 | load 0 | load 0 | load 0 | load 0 | load 0 | load 0 | load 0 | load 0 | load 0 | load 0 | load 0 | load 0 | load 0 | load 0 | load 0 | load 0 | load 0 | load 0 | load 0 | load 0 | load 0 | load 0 | load 0 | load 0 | load 0 | load 0 | load 0 | load 0 | load 0 | load 0 | load 0 | load 0 | load 0 | load 0 | load 0 | load 0 | load 0 | load 0 | load 0 | load 0 | load 0 | load 0 | load 0 | load 0 | load 0 | load 0\n"
    ++ codes "16 burst x16 c0 b14 n128 pause | load 0 | load 0 | load 0 | load 0 | load 0 | load 0 | load 0 | load 0 | load 0 | load 0 | load 0 | load 0 | load 0 | load 0 | load 0 | load 0 | load 0 | load 0 | load 0 | load 0 | load 0 | load 0 | load 0 | load 0 | load 0 | load 0 | load 0 | load 0 | load 0 | load 0 | load 0 | load 0 | load 0 | load 0 | load 0 | load 0 | load 0 | load 0 | load 0 | load 0 | load 0 | load 0 | load 0 | load 0 | load 0 | load 0 | load 0 | load 0 | load 0 | load 0 | load 0 | load 0 | load 0 | load 0 | load 0 | load 0 | load 0 | load 0 | load 0 | load 0 | load 0 | load 0 | load 0 | load 0\n"
    ++ codes "17 burst x16 c0 b15 n128 pause | load 0 | load 0 | load 0 | load 0 | load 0 | load 0 | load 0 | load 0 | load 0 | load 0 | load 0 | load 0 | load 0 | load 0 | load 0 | load 0 | load 0 | load 0 | load 0 | load 0 | load 0 | load 0 | load 0 | load 0 | load 0 | load 0 | load 0 | load 0 | load 0 | load 0 | load 0 | load 0 | load 0 | load 0 | load 0 | load 0 | load 0 | load 0 | load 0 | load 0 | load 0 | load 0 | load 0 | load 0 | load 0 | load 0 | load 0 | load 0 | load 0 | load 0 | load 0 | load 0 | load 0 | load 0 | load 0 | load 0 | load 0 | load 0 | load 0 | load 0 | load 0 | load 0 | load 0 | load 0\n"
    ++ codes "18 burst x16 c0 b16 n128 pause | load 0 | load 0 | load 0 | load 0 | load 0 | load 0 | load 0 | load 0 | load 0 | load 0 | load 0 | load 0 | load 0 | load 0 | load 0 | load 0 | load 0 | load 0 | load 0 | load 0 | load 0 | load 0 | load 0 | load 0 | load 0 | load 0 | load 0 | load 0 | load 0 | load 0 | load 0 | load 0 | load 0 | load 0 | load 0 | load 0 | load 0 | load 0 | load 0 | load 0 | load 0 | load 0 | load 0 | load 0 | load 0 | load 0 | load 0 | load 0 | load 0 | load 0 | load 0 | load 0 | load 0 | load 0 | load 0 | load 0 | load 0 | load 0 | load 0 | load 0 | load 0 | load 0 | load 0 | load 0\n"
    ++ codes "19 burst x16 c0 b17 n128 pause | load 0 | load 0 | load 0 | load 0 | load 0 | load 0 | load 0 | load 0 | load 0 | load 0 | load 0 | load 0 | load 0 | load 0 | load 0 | load 0 | load 0 | load 0 | load 0 | load 0 | load 0 | load 0 | load 0 | load 0 | load 0 | load 0 | load 0 | load 0 | load 0 | load 0 | load 0 | load 0 | load 0 | load 0 | load 0 | load 0 | load 0 | load 0 | load 0 | load 0 | load 0 | load 0 | load 0 | load 0 | load 0 | load 0 | load 0 | load 0 | load 0 | load 0 | load 0 | load 0 | load 0 | load 0 | load 0 | load 0 | load 0 | load 0 | load 0 | load 0 | load 0 | load 0 | load 0 | load 0\n"
    ++ codes "20 burst x16 c0 b18 n128 pause | load 0 | load 0 | load 0 | load 0 | load 0 | load 0 | load 0 | load 0 | load 0 | load 0 | load 0 | load 0 | load 0 | load 0 | load 0 | load 0 | load 0 | load 0 | load 0 | load 0 | load 0 | load 0 | load 0 | load 0 | load 0 | load 0 | load 0 | load 0 | load 0 | load 0 | load 0 | load 0 | load 0 | load 0 | load 0 | load 0 | load 0 | load 0 | load 0 | load 0 | load 0 | load 0 | load 0 | load 0 | load 0 | load 0 | load 0 | load 0 | load 0 | load 0 | load 0 | load 0 | load 0 | load 0 | load 0 | load 0 | load 0 | load 0 | load 0 | load 0 | load 0 | load 0 | load 0 | load 0\n"
    ++ codes "21 burst x16 c0 b19 n128 pause | load 0 | load 0 | load 0 | load 0 | load 0 | load 0 | load 0 | load 0 | load 0 | load 0 | load 0 | load 0 | load 0 | load 0 | load 0 | load 0 | load 0 | load 0 | load 0 | load 0 | load 0 | load 0 | load 0 | load 0 | load 0 | load 0 | load 0 | load 0 | load 0 | load 0 | load 0 | load 0 | load 0 | load 0 | load 0 | load 0 | load 0 | load 0 | load 0 | load 0 | load 0 | load 0 | load 0 | load 0 | load 0 | load 0 | load 0 | load 0 | load 0 | load 0 | load 0 | load 0 | load 0 | load 0 | load 0 | load 0 | load 0 | load 0 | load 0 | load 0 | load 0 | load 0 | load 0 | load 0\n"
    ++ codes "22 burst x16 c0 b20 n128 pause | load 0 | load 0 | load 0 | load 0 | load 0 | load 0 | load 0 | load 0 | load 0 | load 0 | load 0 | load 0 | load 0 | load 0 | load 0 | load 0 | load 0 | load 0 | load 0 | load 0 | load 0 | load 0 | load 0 | load 0 | load 0 | load 0 | load 0 | load 0 | load 0 | load 0 | load 0 | load 0 | load 0 | load 0 | load 0 | load 0 | load 0 | load 0 | load 0 | load 0 | load 0 | load 0 | load 0 | load 0 | load 0 | load 0 | load 0 | load 0 | load 0 | load 0 | load 0 | load 0 | load 0 | load 0 | load 0 | load 0 | load 0 | load 0 | load 0 | load 0 | load 0 | load 0 | load 0 | load 0\n"
    ++ codes "23 burst x16 c0 b21 n128 pause | load 0 | load 0 | load 0 | load 0 | load 0 | load 0 | load 0 | load 0 | load 0 | load 0 | load 0 | load 0 | load 0 | load 0 | load 0 | load 0 | load 0 | load 0 | load 0 | load 0 | load 0 | load 0 | load 0 | load 0 | load 0 | load 0 | load 0 | load 0 | load 0 | load 0 | load 0 | load 0 | load 0 | load 0 | load 0 | load 0 | load 0 | load 0 | load 0 | load 0 | load 0 | load 0 | load 0 | load 0 | load 0 | load 0 | load 0 | load 0 | load 0 | load 0 | load 0 | load 0 | load 0 | load 0 | load 0 | load 0 | load 0 | load 0 | load 0 | load 0 | load 0 | load 0 | load 0 | load 0\n"
    ++ codes "24 burst x16 c0 b22 n128 pause | load 0 | load 0 | load 0 | load 0 | load 0 | load 0 | load 0 | load 0 | load 0 | load 0 | load 0 | load 0 | load 0 | load 0 | load 0 | load 0 | load 0 | load 0 | load 0 | load 0 | load 0 | load 0 | load 0 | load 0 | load 0 | load 0 | load 0 | load 0 | load 0 | load 0 | load 0 | load 0 | load 0 | load 0 | load 0 | load 0 | load 0 | load 0 | load 0 | load 0 | load 0 | load 0 | load 0 | load 0 | load 0 | load 0 | load 0 | load 0 | load 0 | load 0 | load 0 | load 0 | load 0 | load 0 | load 0 | load 0 | load 0 | load 0 | load 0 | load 0 | load 0 | load 0 | load 0 | load 0\n"
    ++ codes "25 burst x16 c0 b23 n128 pause | load 0 | load 0 | load 0 | load 0 | load 0 | load 0 | load 0 | load 0 | load 0 | load 0 | load 0 | load 0 | load 0 | load 0 | load 0 | load 0 | load 0 | load 0 | load 0 | load 0 | load 0 | load 0 | load 0 | load 0 | load 0 | load 0 | load 0 | load 0 | load 0 | load 0 | load 0 | load 0 | load 0 | load 0 | load 0 | load 0 | load 0 | load 0 | load 0 | load 0 | load 0 | load 0 | load 0 | load 0 | load 0 | load 0 | load 0 | load 0 | load 0 | load 0 | load 0 | load 0 | load 0 | load 0 | load 0 | load 0 | load 0 | load 0 | load 0 | load 0 | load 0 | load 0 | load 0 | load 0\n"
    ++ codes "26 burst x16 c0 b24 n128 pause | load 0 | load 0 | load 0 | load 0 | load 0 | load 0 | load 0 | load 0 | load 0 | load 0 | load 0 | load 0 | load 0 | load 0 | load 0 | load 0 | load 0 | load 0 | load 0 | load 0 | load 0 | load 0 | load 0 | load 0 | load 0 | load 0 | load 0 | load 0 | load 0 | load 0 | load 0 | load 0 | load 0 | load 0 | load 0 | load 0 | load 0 | load 0 | load 0 | load 0 | load 0 | load 0 | load 0 | load 0 | load 0 | load 0 | load 0 | load 0 | load 0 | load 0 | load 0 | load 0 | load 0 | load 0 | load 0 | load 0 | load 0 | load 0 | load 0 | load 0 | load 0 | load 0 | load 0 | load 0\n"
    ++ codes "27 burst x16 c0 b25 n128 pause | load 0 | load 0 | load 0 | load 0 | load 0 | load 0 | load 0 | load 0 | load 0 | load 0 | load 0 | load 0 | load 0 | load 0 | load 0 | load 0 | load 0 | load 0 | load 0 | load 0 | load 0 | load 0 | load 0 | load 0 | load 0 | load 0 | load 0 | load 0 | load 0 | load 0 | load 0 | load 0 | load 0 | load 0 | load 0 | load 0 | load 0 | load 0 | load 0 | load 0 | load 0 | load 0 | load 0 | load 0 | load 0 | load 0 | load 0 | load 0 | load 0 | load 0 | load 0 | load 0 | load 0 | load 0 | load 0 | load 0 | load 0 | load 0 | load 0 | load 0 | load 0 | load 0 | load 0 | load 0\n"
    ++ codes "28 burst x16 c0 b26 n128 pause | load 0 | load 0 | load 0 | load 0 | load 0 | load 0 | load 0 | load 0 | load 0 | load 0 | load 0 | load 0 | load 0 | load 0 | load 0 | load 0 | load 0 | load 0 | load 0 | load 0 | load 0 | load 0 | load 0 | load 0 | load 0 | load 0 | load 0 | load 0 | load 0 | load 0 | load 0 | load 0 | load 0 | load 0 | load 0 | load 0 | load 0 | load 0 | load 0 | load 0 | load 0 | load 0 | load 0 | load 0 | load 0 | load 0 | load 0 | load 0 | load 0 | load 0 | load 0 | load 0 | load 0 | load 0 | load 0 | load 0 | load 0 | load 0 | load 0 | load 0 | load 0 | load 0 | load 0 | load 0\n"
    ++ codes "29 burst x16 c0 b27 n128 pause | load 0 | load 0 | load 0 | load 0 | load 0 | load 0 | load 0 | load 0 | load 0 | load 0 | load 0 | load 0 | load 0 | load 0 | load 0 | load 0 | load 0 | load 0 | load 0 | load 0 | load 0 | load 0 | load 0 | load 0 | load 0 | load 0 | load 0 | load 0 | load 0 | load 0 | load 0 | load 0 | load 0 | load 0 | load 0 | load 0 | load 0 | load 0 | load 0 | load 0 | load 0 | load 0 | load 0 | load 0 | load 0 | load 0 | load 0 | load 0 | load 0 | load 0 | load 0 | load 0 | load 0 | load 0 | load 0 | load 0 | load 0 | load 0 | load 0 | load 0 | load 0 | load 0 | load 0 | load 0\n"
    ++ codes "30 burst x16 c0 b28 n128 pause | load 0 | load 0 | load 0 | load 0 | load 0 | load 0 | load 0 | load 0 | load 0 | load 0 | load 0 | load 0 | load 0 | load 0 | load 0 | load 0 | load 0 | load 0 | load 0 | load 0 | load 0 | load 0 | load 0 | load 0 | load 0 | load 0 | load 0 | load 0 | load 0 | load 0 | load 0 | load 0 | load 0 | load 0 | load 0 | load 0 | load 0 | load 0 | load 0 | load 0 | load 0 | load 0 | load 0 | load 0 | load 0 | load 0 | load 0 | load 0 | load 0 | load 0 | load 0 | load 0 | load 0 | load 0 | load 0 | load 0 | load 0 | load 0 | load 0 | load 0 | load 0 | load 0 | load 0 | load 0\n"
    ++ codes "31 burst x16 c0 b29 n128 pause | load 0 | load 0 | load 0 | load 0 | load 0 | load 0 | load 0 | load 0 | load 0 | load 0 | load 0 | load 0 | load 0 | load 0 | load 0 | load 0 | load 0 | load 0 | load 0 | load 0 | load 0 | load 0 | load 0 | load 0 | load 0 | load 0 | load 0 | load 0 | load 0 | load 0 | load 0 | load 0 | load 0 | load 0 | load 0 | load 0 | load 0 | load 0 | load 0 | load 0 | load 0 | load 0 | load 0 | load 0 | load 0 | load 0 | load 0 | load 0 | load 0 | load 0 | load 0 | load 0 | load 0 | load 0 | load 0 | load 0 | load 0 | load 0 | load 0 | load 0 | load 0 | load 0 | load 0 | load 0\n"
    ++ codes "32 burst x16 c0 b30 n128 pause | load 0 | load 0 | load 0 | load 0 | load 0 | load 0 | load 0 | load 0 | load 0 | load 0 | load 0 | load 0 | load 0 | load 0 | load 0 | load 0 | load 0 | load 0 | load 0 | load 0 | load 0 | load 0 | load 0 | load 0 | load 0 | load 0 | load 0 | load 0 | load 0 | load 0 | load 0 | load 0 | load 0 | load 0 | load 0 | load 0 | load 0 | load 0 | load 0 | load 0 | load 0 | load 0 | load 0 | load 0 | load 0 | load 0 | load 0 | load 0 | load 0 | load 0 | load 0 | load 0 | load 0 | load 0 | load 0 | load 0 | load 0 | load 0 | load 0 | load 0 | load 0 | load 0 | load 0 | load 0\n"
    ++ codes "33 burst x16 c0 b31 n128 pause | load 0 | load 0 | load 0 | load 0 | load 0 | load 0 | load 0 | load 0 | load 0 | load 0 | load 0 | load 0 | load 0 | load 0 | load 0 | load 0 | load 0 | load 0 | load 0 | load 0 | load 0 | load 0 | load 0 | load 0 | load 0 | load 0 | load 0 | load 0 | load 0 | load 0 | load 0 | load 0 | load 0 | load 0 | load 0 | load 0 | load 0 | load 0 | load 0 | load 0 | load 0 | load 0 | load 0 | load 0 | load 0 | load 0 | load 0 | load 0 | load 0 | load 0 | load 0 | load 0 | load 0 | load 0 | load 0 | load 0 | load 0 | load 0 | load 0 | load 0 | load 0 | load 0 | load 0 | load 0\n"
    ++ codes "34 burst x16 c0 b32 n128 pause | load 0 | load 0 | load 0 | load 0 | load 0 | load 0 | load 0 | load 0 | load 0 | load 0 | load 0 | load 0 | load 0 | load 0 | load 0 | load 0 | load 0 | load 0 | load 0 | load 0 | load 0 | load 0 | load 0 | load 0 | load 0 | load 0 | load 0 | load 0 | load 0 | load 0 | load 0 | load 0 | load 0 | load 0 | load 0 | load 0 | load 0 | load 0 | load 0 | load 0 | load 0 | load 0 | load 0 | load 0 | load 0 | load 0 | load 0 | load 0 | load 0 | load 0 | load 0 | load 0 | load 0 | load 0 | load 0 | load 0 | load 0 | load 0 | load 0 | load 0 | load 0 | load 0 | load 0 | load 0 ! too_many_crossings\n"
    ++ codes "35 stage stop\n"
    ++ codes "36 stage collect\n"
    ++ codes "config 0 0 0 0\n"
    ++ codes "failures 1\n"
    ++ codes "contract kept\n"
    ++ codes "status 1\n"
