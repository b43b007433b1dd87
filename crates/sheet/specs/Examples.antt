-- The sheet of document 01's example settlement, whole: K 2,000,000, Ss 600,000, Sp 400,000; Rs 1,250,000, Rp 800,000, of an L&P book in
-- November with C and I 0. Proved in proofs/Examples.antt.
use Rattle.std.specs.Prelude.{◌≡◌, codes, ◌++◌, false, pos}
use Rattle.electric_rules.specs.declared.ElectricBook.{ElectricBook}
use Rattle.electric_rules.specs.declared.Sales.{Sales}
use Rattle.electric_rules.specs.Book.{sales_of, period_of, fresh_level}
use Rattle.sheet.specs.Sheet.{sheet_text}

abbrev november : ElectricBook
november =
    record {
      division = 0;
      month = 11;
      settled = false;
      period = period_of (pos 2000000) (sales_of (pos 600000) (pos 400000)) (pos 0);
      secondary = fresh_level;
      primary = fresh_level;
    }

abbrev estimates : Sales
estimates = sales_of (pos 1250000) (pos 800000)

abbrev pub ExampleHolds : Type 0
ExampleHolds =
    sheet_text november estimates
    ≡ codes "1   Total energy cost (F, P, and E)       20000.00                              \n"
    ++ codes "2   Base energy cost (B)                  17990.00                              \n"
    ++ codes "3   First Interim Total                    2010.00                              \n"
    ++ codes "4   Base energy (S_A) by voltage le                        600000         400000\n"
    ++ codes "4.1 Loss factors (L)                                     108.443%       106.231%\n"
    ++ codes "4.2 S_A adjusted for losses                1075582         650658         424924\n"
    ++ codes "4.3 Loss factor weights                                   60.494%        39.506%\n"
    ++ codes "5   Customer Responsibility                    95%                              \n"
    ++ codes "6   Second Interim Total by voltage        1909.50        1155.13         754.37\n"
    ++ codes "7   Adjustment for Under / Over rec                          0.00           0.00\n"
    ++ codes "8   Interest (I)                                             0.00           0.00\n"
    ++ codes "9   Fuel Adjustment Clause                                1155.13         754.37\n"
    ++ codes "10  Estimated recovery period sales                       1250000         800000\n"
    ++ codes "11  Current period cost adjustment                         0.0009         0.0009\n"
    ++ codes "12  Previous period cost adjustment                        0.0000         0.0000\n"
    ++ codes "13  Current annual cost adjustment                         0.0009         0.0009\n"
