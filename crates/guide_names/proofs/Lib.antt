mod NoKey
mod Tables
mod Written
