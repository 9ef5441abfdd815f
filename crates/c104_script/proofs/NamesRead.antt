-- The name of what stands at an address, behind a word for its switch, is read as that address.
use Rattle.{c104_plan.specs.Plans.{Plan, switch_number}, c104_regs.specs.Addresses.{IsAddress, IsRegister, address_number}}
use Rattle.{c104_regs.specs.declared.addresses.{Address.Address, Register.Register}, c104_script.proofs.RowNumbers.row_read}
use Rattle.c104_script.specs.{RegisterNames.IsReadAs, RegisterWords.{RegisterPlace, address_link, address_name, address_row, is_row_due}}
use Rattle.c104_script.specs.{RegisterWords.{link_register_name, register_place, register_row, register_with}, Script.place_word}
use Rattle.c104_script.specs.{Script.register_line, declared.register_words.RegisterPlace.TheVariants.{OfLink, OfSwitch}}
use Rattle.std.proofs.{Common.{List, None, Ok, Option, Some, arith, nat_lt, refl, sym, true, ℕ, ◌<◌, ◌≡◌}, lemmas.Bool.Decides.nat_tests}
use Rattle.std.specs.Fmt.{decimal}

-- words that are read as a place, and a switch at which it is, make a register's line
line_read : (word : List ℕ) (row : Option (List ℕ)) (place : RegisterPlace) (link : Option ℕ) (addr : ℕ) → is_row_due word row ≡ true → register_place word row ≡ Ok place → ((s : ℕ) → register_with (Some s) link place ≡ Ok (s, addr)) → (plan : Plan) (node switch : List ℕ) (s : ℕ) → place_word node ≡ Ok (switch, link) → switch_number plan switch ≡ Some s → register_line plan node word row ≡ Ok (Ok (s, addr))
line_read word row place link addr due is with plan node switch s named found = rw (due, named, is, found, with s) refl

link_is : (l : ℕ) → l < 32 → nat_lt l 32 ≡ true
link_is l small = search (arith, nat_tests)

row_is : (k : ℕ) → k < 36 → nat_lt k 36 ≡ true
row_is k small = search (arith, nat_tests)

-- the place that a name with a row's number stands for
limit_read : (k : ℕ) → k < 36 → register_place (link_register_name (Register.Limit k)) (Some (decimal k)) ≡ Ok (OfLink (Register.Limit k))
limit_read k small = rw (row_read k small, row_is k small) refl

select_read : (k : ℕ) → k < 36 → register_place (link_register_name (Register.Select k)) (Some (decimal k)) ≡ Ok (OfLink (Register.Select k))
select_read k small = rw (row_read k small, row_is k small) refl

-- a register of a link, at the link
at_link : (r : Register) (l : ℕ) → l < 32 → (s : ℕ) → register_with (Some s) (Some l) (OfLink r) ≡ Ok (s, address_number (Address.AtLink l r))
at_link r l small s = rw (link_is l small) refl

-- a register of no row
single : (l : ℕ) (r : Register) → l < 32 → is_row_due (link_register_name r) None ≡ true → register_place (link_register_name r) None ≡ Ok (OfLink r) → IsReadAs (Some l) (link_register_name r) None (address_number (Address.AtLink l r))
single l r small due is = line_read (link_register_name r) None (OfLink r) (Some l) (address_number (Address.AtLink l r)) due is (at_link r l small)

-- a register of a row
of_row : (l k : ℕ) (r : Register) → l < 32 → is_row_due (link_register_name r) (Some (decimal k)) ≡ true → register_place (link_register_name r) (Some (decimal k)) ≡ Ok (OfLink r) → IsReadAs (Some l) (link_register_name r) (Some k) (address_number (Address.AtLink l r))
of_row l k r small due is = line_read (link_register_name r) (Some (decimal k)) (OfLink r) (Some l) (address_number (Address.AtLink l r)) due is (at_link r l small)

register_read_back : (l : ℕ) (r : Register) → l < 32 → IsRegister r → IsReadAs (Some l) (link_register_name r) (register_row r) (address_number (Address.AtLink l r))
register_read_back l Register.Mode small is = single l Register.Mode small refl refl
register_read_back l Register.RandomBase small is = single l Register.RandomBase small refl refl
register_read_back l Register.RandomRange small is = single l Register.RandomRange small refl refl
register_read_back l Register.Sunk small is = single l Register.Sunk small refl refl
register_read_back l Register.Short small is = single l Register.Short small refl refl
register_read_back l Register.InputLevel small is = single l Register.InputLevel small refl refl
register_read_back l Register.OutputLevel small is = single l Register.OutputLevel small refl refl
register_read_back l Register.Credit small is = single l Register.Credit small refl refl
register_read_back l Register.Granted small is = single l Register.Granted small refl refl
register_read_back l Register.Owner small is = single l Register.Owner small refl refl
register_read_back l Register.Base small is = single l Register.Base small refl refl
register_read_back l (Register.Limit k) small is = of_row l k (Register.Limit k) small refl (limit_read k is)
register_read_back l (Register.Select k) small is = of_row l k (Register.Select k) small refl (select_read k is)

read_back : (x : Address) → IsAddress x → IsReadAs (address_link x) (address_name x) (address_row x) (address_number x)
read_back Address.DeviceId is = line_read (address_name Address.DeviceId) None (OfSwitch 0) None 0 refl refl (λ s. refl)
read_back Address.Started is = line_read (address_name Address.Started) None (OfSwitch 1) None 1 refl refl (λ s. refl)
read_back (Address.AtLink l r) is = register_read_back l r is.0 is.1

-- the same of what tells of such a name
pub named_read : (x : Address) (addr : ℕ) (link row : Option ℕ) (name : List ℕ) → link ≡ address_link x → name ≡ address_name x → row ≡ address_row x → IsAddress x → address_number x ≡ addr → IsReadAs link name row addr
named_read x addr link row name links names rows is at = rw (links, names, rows, sym at) (read_back x is)
